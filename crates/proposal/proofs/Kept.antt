-- What is proposed is always on the grid (`on-grid`), for any format and any floats: so the checker never refuses a proposal for the direction's range. Assumes nothing.
use Rattle.std.proofs.Common.{◌≡◌, Bool, true, false, cond, ℤ, pos, refl}
use lib.Ieee.{Format}
use Rattle.vector.specs.declared.vec3.Vec3.{Vec3}
use Rattle.certificate.specs.Certificate.{on_grid, vector_on_grid}
use Rattle.certificate.proofs.Tests.{join}
use Rattle.proposal.specs.Proposal.{kept, grid_number, proposed}

pub kept_there : (n : ℤ) → on_grid n ≡ true → n ≡ kept n
unfolding kept
kept_there n h = rw h

pub kept-not : (n : ℤ) → on_grid n ≡ false → pos 0 ≡ kept n
unfolding kept
kept-not n h = rw h

chosen-on-grid : (n : ℤ) (b : Bool) → on_grid n ≡ b → on_grid (cond b n (pos 0)) ≡ true
unfolding on_grid
chosen-on-grid n true h = h
chosen-on-grid n false h = refl

kept-on-grid : (n : ℤ) → on_grid (kept n) ≡ true
unfolding kept
kept-on-grid n = chosen-on-grid n (on_grid n) refl

pub on-grid : (f : Format) (v : Vec3) → vector_on_grid (proposed f v) ≡ true
unfolding vector_on_grid proposed grid_number
on-grid f v = join (join (kept-on-grid _) (kept-on-grid _)) (kept-on-grid _)
