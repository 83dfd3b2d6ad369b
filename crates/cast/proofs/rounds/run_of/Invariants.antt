-- What the loop of `run_of` keeps: the rounds that are left, run from here, give what all of them give from the start.
use Prim.Native.Nat.{◌-◌}
use mathlib.Core.Path.{◌≡◌}
use lib.Ieee.{binary32}
use Rattle.cast.specs.Cast.{search_of, run_of}
use Rattle.cast.proofs.rounds.run_of.Given as goal

abbrev pub invariant-loop : goal.invariant-loop
invariant-loop l = run_of binary32 (search_of binary32 l.q) (100 - l.counter) l.present l.r ≡ run_of binary32 (search_of binary32 l.q) 100 l.initial.present l.initial.r
