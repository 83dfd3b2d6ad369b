-- What `Face::new` takes of a projection in each region of the triangle: the tests of the regions before it fail, and its own holds. Assumes nothing.
use Rattle.std.proofs.Common.{◌≡◌, Bool, true, false, ◌&&◌}
use lib.Ieee as Ieee
use lib.Ieee.{Float, Format, lt, le}
use Rattle.vector.specs.declared.vec3.Vec3.{Vec3}
use Rattle.vector.specs.Vector.{zero_f, one_f, zero_v, add_v, scale_v, dot_v, cross_v, length_squared_v, ◌⊖◌, ◌⊘◌}
use Rattle.projection.specs.declared.triangle.Triangle.{Triangle}
use Rattle.projection.specs.declared.triangle.Differences.{Differences}
use Rattle.projection.specs.declared.triangle.Dots.{Dots}
use Rattle.projection.specs.Signs.{at_least_zero, at_most_zero}
use Rattle.projection.specs.Triangle.{project_triangle, differences, dots, or_else, vertex_region, on_vertex, check_edges, located, on_edge, on_face, face_side}
use Rattle.projection.specs.Triangle.{barycentric_coordinates, vertex_weights, edge_weights}
use Rattle.epa_polytope.specs.Face.{weights_or, holds_at}
use Rattle.epa_faces.specs.declared.face.Weighed.{Weighed}
use Rattle.epa_faces.specs.Weighed.{weighed, on_border}

module _ (f : Format) (t : Triangle) where
  abbrev v : Differences
  v = differences f t zero_v

  abbrev k : Dots
  k = dots f v

  -- the normal, and the weights before the division
  abbrev n : Vec3
  n = cross_v f v.ab v.ac

  abbrev va : Float
  va = dot_v f n (cross_v f v.bc v.bp)

  abbrev vb : Float
  vb = Ieee.neg (dot_v f n (cross_v f v.ac v.cp))

  abbrev vc : Float
  vc = dot_v f n (cross_v f v.ab v.ap)

  -- ---- the tests
  abbrev pub in_a : Bool
  in_a = at_most_zero k.ab_ap && at_most_zero k.ac_ap

  abbrev pub in_b : Bool
  in_b = at_least_zero k.ab_bp && le k.ac_bp k.ab_bp

  abbrev pub in_c : Bool
  in_c = at_least_zero k.ac_cp && le k.ab_cp k.ac_cp

  abbrev pub in_ab : Bool
  in_ab = lt vc zero_f && at_least_zero k.ab_ap && at_most_zero k.ab_bp

  abbrev pub in_ac : Bool
  in_ac = lt vb zero_f && at_least_zero k.ac_ap && at_most_zero k.ac_cp

  abbrev pub in_bc : Bool
  in_bc = lt va zero_f && at_least_zero (◌⊖◌ f k.ac_bp k.ab_bp) && at_least_zero (◌⊖◌ f k.ab_cp k.ac_cp)

  -- ---- the regions, and what is taken of the projection in each
  abbrev taken : Weighed
  taken = weighed f (project_triangle f t zero_v)

  pub in-a : in_a ≡ true → taken ≡ on_border f one_f zero_f zero_f t.a
  unfolding weighed on_border project_triangle vertex_region on_vertex or_else barycentric_coordinates vertex_weights weights_or holds_at
  in-a a = simp a

  pub in-b : in_a ≡ false → in_b ≡ true → taken ≡ on_border f zero_f one_f zero_f t.b
  unfolding weighed on_border project_triangle vertex_region on_vertex or_else barycentric_coordinates vertex_weights weights_or holds_at
  in-b a b = simp (a, b)

  pub in-c : in_a ≡ false → in_b ≡ false → in_c ≡ true → taken ≡ on_border f zero_f zero_f one_f t.c
  unfolding weighed on_border project_triangle vertex_region on_vertex or_else barycentric_coordinates vertex_weights weights_or holds_at
  in-c a b c = simp (a, b, c)

  -- where no corner's test holds
  pub record OffCorners : Type 0 where
    pub not_a : in_a ≡ false
    pub not-b : in_b ≡ false
    pub not-c : in_c ≡ false

  module _ (off : OffCorners) where
    -- the point at the part r of the edge d from p
    abbrev on : Vec3 → Vec3 → Float → Vec3
    on p d r = add_v f p (scale_v f d r)

    pub in-ab : in_ab ≡ true → let r = ◌⊘◌ f k.ab_ap (length_squared_v f v.ab) in taken ≡ on_border f (◌⊖◌ f one_f r) r zero_f (on t.a v.ab r)
    unfolding weighed on_border project_triangle vertex_region check_edges located on_edge or_else barycentric_coordinates edge_weights weights_or holds_at
    in-ab ab = simp (off.not_a, off.not-b, off.not-c, ab)

    pub in-ac : in_ab ≡ false → in_ac ≡ true
        → let r = ◌⊘◌ f k.ac_ap (length_squared_v f v.ac) in taken ≡ on_border f (◌⊖◌ f one_f r) zero_f r (on t.a v.ac r)
    unfolding weighed on_border project_triangle vertex_region check_edges located on_edge or_else barycentric_coordinates edge_weights weights_or holds_at
    in-ac ab ac = simp (off.not_a, off.not-b, off.not-c, ab, ac)

    pub in-bc : in_ab ≡ false → in_ac ≡ false → in_bc ≡ true
        → let r = ◌⊘◌ f (dot_v f v.bc v.bp) (length_squared_v f v.bc) in taken ≡ on_border f zero_f (◌⊖◌ f one_f r) r (on t.b v.bc r)
    unfolding weighed on_border project_triangle vertex_region check_edges located on_edge or_else barycentric_coordinates edge_weights weights_or holds_at
    in-bc ab ac bc = simp (off.not_a, off.not-b, off.not-c, ab, ac, bc)

    pub in-the-middle : in_ab ≡ false → in_ac ≡ false → in_bc ≡ false → taken ≡ weighed f (on_face f zero_v t.a v.ab v.ac (face_side (dot_v f n v.ap)) va vb vc)
    unfolding project_triangle vertex_region check_edges located or_else
    in-the-middle ab ac bc = simp (off.not_a, off.not-b, off.not-c, ab, ac, bc)
