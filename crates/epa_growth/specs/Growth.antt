-- The stores that the private functions of this crate write, beside the vertices and the edges that they are lent to read. Definitions only; who reads the public contract need not read them.
use Rattle.epa_polytope.specs.Promises.{Moment, called, returned}
use Rattle.epa_polytope.specs.Stores.{Lists, with_face_ids, with_face_floats, with_deleted, with_heap}
use Rattle.epa_stores.specs.Lent.{LentAll, held}

-- the faces and the heap of l in the places of k's; the vertices, the edges and the pending questions stay k's
abbrev pub faces_and_heap : Lists → Lists → Lists
faces_and_heap l k = with_face_ids l.face_ids (with_face_floats l.face_floats (with_deleted l.deleted (with_heap l.heap_ids l.heap_keys k)))

-- those of the stores, as they are when a function is called, and when it returns
abbrev pub grown : Moment → LentAll → Lists → Lists
grown called s = faces_and_heap (held s.entry.now)
grown returned s = faces_and_heap (held s.exit.now)
