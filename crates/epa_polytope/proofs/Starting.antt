-- The vertices of the start and the tolerance, told of the lists and the answer that the code leaves: for any world. Assumes nothing.
use mathlib.Core.Path.{◌≡◌, refl, sym, ap, ◌∙◌}
use mathlib.Core.Bool.{Bool, true, false, not, ◌&&◌}
use mathlib.Core.List.{List}
use Rattle.std.proofs.lemmas.Option.{none-some}
use Rattle.std.specs.Prelude.{Option, None, Some}
use Prim.Native.Nat.{ℕ, suc, ◌+◌, ◌-◌, ◌<◌, ◌≤◌}
use native.Mathlib.Omega.{arith}
use native.Mathlib.Numerals.{add-one}
use lib.Dec.{T, leb}
use lib.Ieee.{Float, Format, fits}
use lib.Ieee.Fits.{add-fits}
use borrow.Author.Tests.{leb-true}
use Rattle.number.specs.Root.{root}
use Rattle.number.specs.Small.{larger}
use Rattle.number.proofs.Monotone.{larger-root, larger-fits}
use Rattle.vector.specs.declared.vec3.Vec3.{Vec3}
use Rattle.vector.specs.Vector.{zero_f, y_v, dot_v, length_squared_v, length_v}
use Rattle.shape.specs.declared.vertex.Vertex.{Vertex}
use Rattle.simplex.specs.declared.voronoi_simplex.VoronoiSimplex.{VoronoiSimplex}
use Rattle.simplex.specs.Simplex.{is_simplex, vertex_at as corner_of}
use Rattle.epa_polytope.specs.declared.types.Tally.{Tally}
use Rattle.epa_polytope.specs.declared.types.Found.TheVariants.{SinglePoint}
use Rattle.epa_polytope.specs.declared.types.End.TheVariants.{Answers}
use Rattle.epa_polytope.specs.Promises.{Step, finish}
use Rattle.std.specs.Prelude.{Ok, Err}
use Rattle.epa_polytope.specs.Stores.{Lists, state_of, vertex_at}
use Rattle.epa_polytope.specs.Steps.{Out, Nil, next, stop, look, ok, ◌>>=◌, ◌>>◌, push_vertex}
use Rattle.epa_polytope.specs.Start.{World, first_far, second, bootstrap, push_points, scale_of}
use Rattle.epa_polytope.specs.Promises.{Does, step_out}
use Rattle.epa_polytope.specs.declared.types.Finish.{Finish}
use Rattle.epa_polytope.specs.Code.{second_of}

-- ---- what has to be a simplex

-- what the test of the code says of it
pub tested : (x : VoronoiSimplex) {b no : Bool} → b ≡ is_simplex x → not b ≡ no → not (is_simplex x) ≡ no
tested x is t = sym (ap not is) ∙ t

-- it has four places
pub within-four : (x : VoronoiSimplex) → not (is_simplex x) ≡ false → x.dim ≤ 3
unfolding is_simplex
within-four x t = leb-true x.dim 3 (by (leb x.dim 3) _ _ _ _ _ t)
  where
    by : (a b c d e f : Bool) → not (a && b && c && d && e && f) ≡ false → a ≡ true
    by true b c d e f q = refl
    by false b c d e f q = sym q

-- ---- its vertices: the loop's invariant, and its turns. The lists are l0 at first, and l now

pub record PointsLoop (x : VoronoiSimplex) (all : ℕ) (l0 : Lists) (run0 : Tally) (l : Lists) (run : Tally) (i : ℕ) : Type 0 where
  pub within : i ≤ all
  pub goes_on : push_points x (all - i) i (state_of l run) ≡ push_points x all 0 (state_of l0 run0)

pub points-start : (x : VoronoiSimplex) (all : ℕ) (l : Lists) (run : Tally) → PointsLoop x all l run l run 0
points-start x all l run = record { within = omega arith; goes_on = let e : all - 0 ≡ all = omega arith in rw e }

module _ {x : VoronoiSimplex} {all : ℕ} {l0 : Lists} {run0 : Tally} {l : Lists} {run : Tally} {i : ℕ} (h : PointsLoop x all l0 run0 l run i) where
  module _ {l' : Lists} {r : Step} (more : i < all) (g : Does step_out (push_vertex (corner_of x i)) l run l' r) where
    one-turn : {y : Step} → r ≡ y → next (step_out l' y) (λ _. push_points x (all - (i + 1)) (i + 1)) ≡ push_points x all 0 (state_of l0 run0)
    unfolding push_points ◌>>◌
    one-turn t =
        let e : all - i ≡ suc (all - (i + 1)) = omega arith in
        ap (λ (o : Out Nil). next o (λ _. push_points x (all - (i + 1)) (i + 1))) (rw t at g.same) ∙ (rw e at h.goes_on)

    pub points-turn : {y : Tally} → r ≡ Ok y → PointsLoop x all l0 run0 l' y (i + 1)
    points-turn t = record { within = omega arith; goes_on = one-turn t }

    pub points-end : {e : Finish} → r ≡ Err e → Does step_out (push_points x all 0) l0 run0 l' (Err e)
    points-end t = record { same = one-turn t }

  pub points-done : all ≤ i → Does step_out (push_points x all 0) l0 run0 l (Ok run)
  unfolding push_points ok
  points-done z =
      let e : all - i ≡ 0 = omega arith in
      record { same = rw e at h.goes_on }

-- ---- a second vertex for a single one, which is v; the search answers m

module _ (w : World) (l : Lists) (c : Tally) {v : Vertex} {m : Option Vertex} (is : v ≡ vertex_at l.vertices 0) (searched : m ≡ second_of w v.point) where
  searched-so : {y : Option Vertex} → m ≡ y → y ≡ second_of w (vertex_at l.vertices 0).point
  searched-so t = rw (t, is) at searched

  pub none-far : m ≡ None → Does step_out (bootstrap w) l c l (Err (finish (Answers SinglePoint v.orig1 v.orig2 y_v) c))
  unfolding bootstrap stop look ◌>>=◌
  none-far t = record { same = rw is (by (first_far w (vertex_at l.vertices 0).point 6 0) (searched-so t)) }
    where
      by : (o : Option Vertex) → None ≡ o
          → step_out l (Err (finish (Answers SinglePoint (vertex_at l.vertices 0).orig1 (vertex_at l.vertices 0).orig2 y_v) c)) ≡ second (vertex_at l.vertices 0) o (state_of l c)
      by None q = refl
      by (Some y) q = absurd (none-some y q)

  pub far-pushed : {y : Vertex} {l' : Lists} {r : Step} → m ≡ Some y → Does step_out (push_vertex y) l c l' r → Does step_out (bootstrap w) l c l' r
  unfolding bootstrap look ◌>>=◌
  far-pushed {y} {l'} {r} t g = record { same = by (first_far w (vertex_at l.vertices 0).point 6 0) (searched-so t) }
    where
      by : (o : Option Vertex) → Some y ≡ o → step_out l' r ≡ second (vertex_at l.vertices 0) o (state_of l c)
      by None q = absurd (none-some y (sym q))
      by (Some u) q = let same : y ≡ u = cc in rw (← same) g.same

-- ---- the tolerance: the largest length is the root of the largest square, so one root is taken of all. A vertex more, which is v

-- the root of the largest square of the first i vertices is their scale; that the square is a value of the format is what `larger-root` asks
pub record ScaleLoop (f : Format) (l : List Float) (i : ℕ) (square : Float) : Type 0 where
  pub held : T (fits f square)
  pub scale : root f square ≡ scale_of f l i

pub scale-start : (f : Format) (l : List Float) → ScaleLoop f l 0 zero_f
unfolding scale_of root fits
scale-start f l = record { held = tt; scale = refl }

square-fits : (f : Format) (p : Vec3) → T (fits f (length_squared_v f p))
unfolding length_squared_v dot_v
square-fits f p = add-fits f _ _

larger-length : (f : Format) (q : Float) (p : Vec3) → T (fits f q) → root f (larger q (length_squared_v f p)) ≡ larger (root f q) (length_v f p)
unfolding length_v
larger-length f q p h = sym (larger-root f q (length_squared_v f p) h (square-fits f p))

pub scale-grown : (f : Format) (l : List Float) (i : ℕ) {v : Vertex} {square greatest grown : Float} → v ≡ vertex_at l i → square ≡ length_squared_v f v.point → ScaleLoop f l i greatest → grown ≡ larger greatest square
    → ScaleLoop f l (i + 1) grown
unfolding scale_of
scale-grown f l i {v} {square} {greatest} is is_square h is_grown =
    let p = (vertex_at l i).point in
    rw (is_grown, is_square, is) record {
      held = larger-fits f greatest (length_squared_v f p) h.held (square-fits f p);
      scale = simp (add-one, larger-length f greatest p h.held, h.scale);
    }
