-- What the loop of `run_of` keeps: the turns that are left, run from here, give what all of them give from the start.
use Prim.Native.Nat.{◌-◌}
use mathlib.Core.Path.{◌≡◌}
use lib.Ieee.{binary32}
use Rattle.gjk.specs.Gjk.{search_of, run_of}
use Rattle.gjk.specs.Carried.{round_by}
use Rattle.gjk.proofs.rounds.run_of.Given as goal

abbrev pub invariant-loop : goal.invariant-loop
invariant-loop l = run_of binary32 (search_of binary32 l.q) (107 - l.counter) l.present (round_by binary32 l.r) ≡ run_of binary32 (search_of binary32 l.q) 107 l.initial.present (round_by binary32 l.initial.r)
