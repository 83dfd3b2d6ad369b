-- What `exchange` leaves: two vertices read, and each written in the other's place. Assumes nothing.
use Rattle.epa_polytope.proofs.StartingFour.{exchange-written}
use Rattle.epa_first_faces.proofs.four.exchange.Goals as goal

pub returns : goal.returns
returns c =
    exchange-written _ c.vertex_at-v1.ensures c.vertex_at-v2.ensures c.put_vertex.ensures
    c.put_vertex-2.ensures
