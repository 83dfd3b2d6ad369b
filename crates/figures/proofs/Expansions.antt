-- DEMAND 3 of a campaign: the outcome of any record carries at most 101 expansions (`record-few`), so that no sum of a campaign wraps. Any format. Assumes nothing.
use Rattle.std.proofs.Common.{◌≤◌, arith}
use lib.Ieee.{Format}
use Rattle.std.specs.Prelude.{Result, Ok, Err}
use Rattle.refusal.specs.declared.WouldPanic.{WouldPanic}
use Rattle.gjk.specs.declared.rounds.GJKResult.{GJKResult}
use Rattle.gjk.specs.declared.rounds.GJKResult.TheVariants.{Intersection, ClosestPoints, Proximity, NoIntersection}
use Rattle.epa_polytope.specs.Stores.{Lists}
use Rattle.epa_polytope.specs.declared.types.End.{End}
use Rattle.epa_polytope.specs.declared.types.End.TheVariants.{Answers, Nothing, Panics, NoRoom}
use Rattle.epa_polytope.specs.declared.types.Walk.TheVariants.{Plain as plain}
use Rattle.epa.specs.Final.{Final, final, penetration}
use Rattle.epa.proofs.Ample.{reported-sizes}
use Rattle.counts.specs.declared.Counts.{Counts}
use Rattle.lines.specs.declared.line.Outcome.{Outcome}
use Rattle.outcome.specs.Outcome.{ended_as, outcome_of}
use Rattle.casefile.specs.declared.records.Case.{Case}
use Rattle.channel.specs.Channel.{distance, separated, by_result}
use Rattle.stream.specs.Stream.{case_outcome}
use Rattle.figures.specs.Exact.{expansions_of}

few-ended : (e : End) (c : Counts) → c.expansions ≤ 101 → expansions_of (ended_as e c) ≤ 101
few-ended (Answers why a b n) c h = h
few-ended (Nothing why) c h = h
few-ended (Panics site) c h = omega arith
few-ended (NoRoom store) c h = h

few-by : (q : Result GJKResult WouldPanic) (x : Final Outcome) (l : Lists) → expansions_of x.answer ≤ 101 → expansions_of (by_result q x (λ o. final o l)).answer ≤ 101
few-by (Ok Intersection) x l h = h
few-by (Ok (ClosestPoints a b d)) x l h = omega arith
few-by (Ok (Proximity d)) x l h = omega arith
few-by (Ok (NoIntersection d)) x l h = omega arith
few-by (Err e) x l h = omega arith

pub record-few : (f : Format) (c : Case) (l : Lists) → expansions_of (case_outcome f c l).answer ≤ 101
unfolding separated outcome_of
record-few f c l =
    let g = distance f c.pos12 c.g1 c.g2 c.dir c.max_dist c.exact in
    let y = penetration plain f c.pos12 c.g1 c.g2 g.simplex l in
    few-by g.result _ l (few-ended y.answer.end _ (reported-sizes plain f c.pos12 c.g1 c.g2 g.simplex l).few_complete)
