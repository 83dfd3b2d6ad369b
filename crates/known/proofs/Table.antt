-- Every row of the table of known cases holds, by computation. Assumes nothing.
use mathlib.Core.Path.{refl}
use lib.Ieee.{of_bits, to_bits, neg, add, sub, mul, lt, le, round}
use Rattle.number.specs.Root.{root}
use Rattle.vector.specs.Vector.{zero_v, sub_v, dot_v}
use Rattle.shape.specs.Vertex.{single_point, vertex_with_point}
use Rattle.tetrahedron.specs.Tetrahedron.{differences, dots, on_vertex, vertex_region, or_solid, project_tetrahedron}
use Rattle.simplex.specs.Simplex.{is_simplex}
use Rattle.reduction.specs.Reduction.{overwrite_in, place_in, tetrahedron_face, reduce_tetrahedron, reduce_to, has_location, apply_location}
use Rattle.heap.specs.Heap.{pushed, popped, settled, rise, rise_in, sink, sink_in, greater, swap}
use Rattle.heap.specs.Order.{order_of, push_all, pop_all}
use Rattle.epa_polytope.specs.Steps.{◌>>◌, stop_if, queue_face}
use Rattle.casefile.specs.Numbers.{encode, encode_in, decode_number, first_of, later_in}
use Rattle.known.specs.Known.{All, table}

pub known : All table
unfolding root of_bits to_bits neg add sub mul lt le round zero_v sub_v dot_v single_point vertex_with_point differences dots on_vertex vertex_region or_solid project_tetrahedron is_simplex overwrite_in place_in tetrahedron_face reduce_tetrahedron reduce_to has_location apply_location pushed popped settled rise rise_in sink sink_in greater swap order_of push_all pop_all ◌>>◌ stop_if queue_face encode encode_in decode_number first_of later_in
known = (refl, (refl, (refl, (refl, (refl, (refl, (refl, (refl, ((refl, refl), (λ why i s. refl, (λ why i s. refl, (λ why i s. refl, ((refl, refl), ((refl, refl), (refl, tt)))))))))))))))
