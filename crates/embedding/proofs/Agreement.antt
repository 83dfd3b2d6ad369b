-- DEMAND 3 and the agreement of the embedded call: lent 105 vertices, 10,710 faces, 206 records and 10,710 heap entries it never answers refusal 3, and two calls on one record that do not, whatever
-- their stores' lengths and former content, give one answer, so that three are voted one. By the channel over records. Any format. Assumes nothing.
use mathlib.Core.Path.{◌≡◌, ◌∙◌, refl, ap, subst}
use mathlib.Core.Bool.{Bool}
use native.Mathlib.Omega.{arith}
use lib.Ieee.{Float, Format}
use Rattle.vector.specs.declared.vec3.Vec3.{Vec3}
use Rattle.vector.specs.declared.pose.Pose.{Pose}
use Rattle.epa_polytope.specs.Stores.{Lists}
use Rattle.epa_polytope.specs.Bounds.{Ample}
use Rattle.epa_lent.specs.Lent.{on_first}
use Rattle.lines.specs.declared.line.Outcome.{Outcome}
use Rattle.lines.specs.declared.line.Outcome.TheVariants.{ClosestPoints, Proximity, NoIntersection, Penetration, NoAnswer, Panic, NoPlace}
use Rattle.lines.specs.Lines.{outcome_number}
use Rattle.channel.specs.Channel as Channel
use Rattle.channel_lent.proofs.Ample.{ample-separated_records, records-agree}
use Rattle.vote.specs.declared.Answer.{Answer}
use Rattle.vote.specs.Vote.{agreed, vote_of}
use Rattle.vote.proofs.Laws.{three-same}
use Rattle.std.specs.Prelude.{Option, Some, None, Ok}
use Rattle.shape.specs.declared.support.Shape.{Shape}
use Rattle.answers.specs.Answers.{answer_of, malformed, number_of}
use Rattle.answers.proofs.Numbers.{number-told}
use Rattle.embedding.specs.Embedding.{ran, HadRoom}

placed-answer : (o : Outcome) → Channel.HadRoom o → HadRoom (answer_of o)
unfolding answer_of number_of
placed-answer (ClosestPoints a b n) p e = omega arith
placed-answer (Proximity n) p e = omega arith
placed-answer (NoIntersection n) p e = omega arith
placed-answer (Penetration a b n c) p e = omega arith
placed-answer (NoAnswer c) p e = omega arith
placed-answer Panic p e = omega arith
placed-answer (NoPlace c) p e = p c refl

answer-placed : (o : Outcome) → HadRoom (answer_of o) → Channel.HadRoom o
answer-placed o p c e = p (number-told o ∙ ap outcome_number e)

module _ (f : Format) (m : Pose) (dir : Vec3) (max_dist : Float) (exact : Bool) where
  -- the embedded call's answer over lists that are lent with the edges as records
  abbrev pub called : Option Shape → Option Shape → Lists → Answer
  called x1 x2 l = (on_first (ran f m x1 x2 dir max_dist exact) l).answer

  -- NEVER REFUSAL 3, with room that suffices
  pub ample-ran : (x1 x2 : Option Shape) (l : Lists) → Ample l → HadRoom (called x1 x2 l)
  unfolding malformed number_of
  ample-ran (Some g1) (Some g2) l room = placed-answer _ (ample-separated_records f m g1 g2 dir max_dist exact l room)
  ample-ran (Some g1) None l room = λ e. omega arith
  ample-ran None x2 l room = λ e. omega arith

  -- TWO CALLS AGREE, neither refused for room
  pub calls-agree : (x1 x2 : Option Shape) (l k : Lists) → HadRoom (called x1 x2 l) → HadRoom (called x1 x2 k) → called x1 x2 l ≡ called x1 x2 k
  calls-agree (Some g1) (Some g2) l k p q = ap answer_of (records-agree f m g1 g2 dir max_dist exact l k (answer-placed _ p) (answer-placed _ q))
  calls-agree (Some g1) None l k p q = refl
  calls-agree None x2 l k p q = refl

  -- THREE CHANNELS on one record, none refused for room, are voted one, with no odd channel, whatever their stores held, NaN or not
  pub three-channels : (x1 x2 : Option Shape) (l k j : Lists) → HadRoom (called x1 x2 l) → HadRoom (called x1 x2 k) → HadRoom (called x1 x2 j)
      → vote_of f (called x1 x2 l) (called x1 x2 k) (called x1 x2 j) ≡ Ok (agreed (called x1 x2 l) 0)
  three-channels x1 x2 l k j p q r =
      let a = calls-agree x1 x2 l k p q in
      let b = calls-agree x1 x2 l j p r in
      subst (λ (y : Answer). vote_of f (called x1 x2 l) y (called x1 x2 j) ≡ Ok (agreed (called x1 x2 l) 0)) a
      (subst (λ (y : Answer). vote_of f (called x1 x2 l) (called x1 x2 l) y ≡ Ok (agreed (called x1 x2 l) 0)) b (three-same f (called x1 x2 l)))
