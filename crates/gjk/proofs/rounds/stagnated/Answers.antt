-- `stagnated` returns where `stagnated` of the definition looks, test by test.
use borrow.Author.Tests.{le-ltb, lt-ltb}
use lib.Ieee.{of_bits}
use Rattle.gjk.specs.Gjk.{perturbed_round, stagnated}
use Rattle.gjk.specs.Carried.{result_by, headed_by}
use Rattle.gjk.proofs.rounds.stagnated.Goals as goal

pub returns-then-r : goal.returns-then-r
unfolding stagnated headed_by of_bits
returns-then-r c = λ s. simp (c.apart_by.ensures s, c.if-r.true)

pub returns-then-is_touching : goal.returns-then-is_touching
unfolding stagnated headed_by result_by of_bits
returns-then-is_touching c = λ s. simp (← c.is_touching.ensures, c.if-is_touching.true, c.if-r.false)

pub returns-then-r-lt-MAX_PERTURBATIONS : goal.returns-then-r-lt-MAX_PERTURBATIONS
unfolding stagnated perturbed_round headed_by of_bits
returns-then-r-lt-MAX_PERTURBATIONS c = λ s. simp (← c.is_touching.ensures, ← c.perturbed_dir-dir.ensures, lt-ltb _ _ c.if-r-lt-MAX_PERTURBATIONS.true, c.if-is_touching.false, c.if-r.false)

pub returns : goal.returns
unfolding stagnated headed_by result_by of_bits
returns c = λ s. simp (← c.is_touching.ensures, le-ltb _ _ c.if-r-lt-MAX_PERTURBATIONS.false, c.if-is_touching.false, c.if-r.false)
