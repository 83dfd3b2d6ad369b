-- How shapes, answers and verdicts go over to another language. Definitions only.
use Rattle.std.specs.Prelude.{cond, ◌||◌, ℕ, eqb, Option, Some, None, Result}
use Rattle.counts.specs.declared.Counts.{Counts}
use Rattle.counts.specs.Counts.{no_counts}
use Rattle.vector.specs.declared.vec3.Vec3.{Vec3}
use Rattle.vector.specs.Vector.{zero_v}
use Rattle.shape.specs.declared.support.Shape.{Shape}
use Rattle.shape.specs.declared.support.Shape.TheVariants.{Ball, Cuboid, Capsule, Triangle}
use Rattle.lines.specs.declared.line.Outcome.{Outcome}
use Rattle.lines.specs.declared.line.Outcome.TheVariants.{ClosestPoints, Proximity, NoIntersection, Penetration, NoAnswer, Panic, NoPlace}
use Rattle.lines.specs.Lines.{letter_of}
use Rattle.vote.specs.declared.Answer.{Answer}
use Rattle.vote.specs.declared.Agreed.{Agreed}
use Rattle.vote.specs.declared.NoAgreement.{NoAgreement}
use Rattle.vote.specs.Vote.{verdict_number, verdict_values}
use Rattle.answers.specs.declared.ShapeRecord.{ShapeRecord}
use Rattle.answers.specs.declared.Voted.{Voted}

-- document 01's kinds: 0 a ball, 1 a cuboid, 2 a capsule, 3 a triangle
unfoldable pub shape_of : ShapeRecord → Option Shape
shape_of g =
    let p = g.p in
    let q = g.q in
    let r = g.r in
    cond (eqb g.kind 0) (Some (Ball p.x))
    (cond (eqb g.kind 1) (Some (Cuboid p.x p.y p.z))
    (cond (eqb g.kind 2) (Some (Capsule p.x p.y p.z q.x q.y q.z r.x))
    (cond (eqb g.kind 3) (Some (Triangle p.x p.y p.z q.x q.y q.z r.x r.y r.z)) None)))

abbrev pub answer_with : ℕ → Vec3 → Vec3 → Vec3 → Counts → Answer
answer_with outcome p1 p2 n c = record { outcome = outcome; point1 = p1; point2 = p2; normal = n; counts = c }

-- the values of an outcome under its letter; a direction alone stands where the normal does
abbrev pub under : ℕ → Outcome → Answer
under letter (ClosestPoints a b n) = answer_with letter a b n no_counts
under letter (Proximity n) = answer_with letter zero_v zero_v n no_counts
under letter (NoIntersection n) = answer_with letter zero_v zero_v n no_counts
under letter (Penetration a b n c) = answer_with letter a b n c
under letter (NoAnswer c) = answer_with letter zero_v zero_v zero_v c
under letter Panic = answer_with letter zero_v zero_v zero_v no_counts
under letter (NoPlace c) = answer_with letter zero_v zero_v zero_v c

unfoldable pub answer_of : Outcome → Answer
answer_of o = under (letter_of o) o

-- a kind above 3: refusal 4, with the first letter of the line `bad`, as a capital
unfoldable pub malformed : Answer
malformed = answer_with 66 zero_v zero_v zero_v no_counts

-- Document 01's number of an answer, by its letter: 0 of D, M, S and P, 1 of N, 2 of X, 3 of R, 4 of B. What is no letter is the answer of no channel, as are the zeros
-- that a vote gives where no two agree: 5.
unfoldable pub number_of : ℕ → ℕ
number_of letter =
    cond (eqb letter 68 || eqb letter 77 || eqb letter 83 || eqb letter 80) 0
    (cond (eqb letter 78) 1
    (cond (eqb letter 88) 2
    (cond (eqb letter 82) 3
    (cond (eqb letter 66) 4 5))))

-- a verdict's number, and its values
unfoldable pub voted_of : Result Agreed NoAgreement → Voted
voted_of x = record { number = verdict_number x; odd = (verdict_values x).odd; answer = (verdict_values x).answer }
