-- The vote of document 01, "Case file and vote", with agreement as document 02 has it (tickets 3 and 4): when two answers agree, and what the answers of three channels give. Definitions only.
use Rattle.std.specs.Prelude.{ℕ, Bool, cond, ◌&&◌, eqb, Float, Result, Ok, Err}
use Rattle.std.specs.Float.{Format}
use Rattle.std.specs.Float.Ieee.{to_bits}
use Rattle.vector.specs.Vector.{zero_v}
use Rattle.vector.specs.declared.vec3.Vec3.{Vec3}
use Rattle.counts.specs.declared.Counts.{Counts}
use Rattle.counts.specs.Counts.{no_counts}
use Rattle.vote.specs.declared.Answer.{Answer}
use Rattle.vote.specs.declared.Agreed.{Agreed}
use Rattle.vote.specs.declared.NoAgreement.{NoAgreement}

-- ---- when two answers agree

-- Two floats agree when their bits are the same, all NaNs counting as one: `to_bits` writes every NaN by the same bits, and +0 and -0 by different ones.
unfoldable pub same_bits : Format → Float → Float → Bool
same_bits f a b = eqb (to_bits f a) (to_bits f b)

unfoldable pub same_bits_v : Format → Vec3 → Vec3 → Bool
same_bits_v f a b = same_bits f a.x b.x && same_bits f a.y b.y && same_bits f a.z b.z

unfoldable pub same_counts : Counts → Counts → Bool
same_counts a b =
    eqb a.expansions b.expansions && eqb a.made b.made && eqb a.live b.live && eqb a.edges b.edges && eqb a.missed b.missed

-- Outcome and counts are the same, and each float agrees.
unfoldable pub agree : Format → Answer → Answer → Bool
agree f a b =
    eqb a.outcome b.outcome && same_counts a.counts b.counts
    && (same_bits_v f a.point1 b.point1 && same_bits_v f a.point2 b.point2 && same_bits_v f a.normal b.normal)

-- ---- what three answers give

-- an answer, and the odd channel's number; and refusal 5
abbrev pub agreed : Answer → ℕ → Agreed
agreed x odd = record { answer = x; odd = odd }

abbrev pub no_agreement : NoAgreement
no_agreement = record {}

-- 1 and 2 agreeing gives answer 1, else 1 and 3 gives 1, else 2 and 3 gives 2, with the odd channel's number, or 0 if 1 agrees with both
unfoldable pub vote_of : Format → Answer → Answer → Answer → Result Agreed NoAgreement
vote_of f a b c =
    cond (agree f a b) (Ok (agreed a (cond (agree f a c) 0 3)))
    (cond (agree f a c) (Ok (agreed a 2))
    (cond (agree f b c) (Ok (agreed b 1)) (Err no_agreement)))

-- ---- document 01's number and values of each case: 0 for an answer, with the odd channel's number, and refusal 5 with zeros

abbrev pub verdict_number : Result Agreed NoAgreement → ℕ
verdict_number (Ok x) = 0
verdict_number (Err e) = 5

unfoldable pub no_answer : Answer
no_answer = record { outcome = 0; point1 = zero_v; point2 = zero_v; normal = zero_v; counts = no_counts }

-- the answer, and the odd channel's number; zeros where no two agree
unfoldable pub verdict_values : Result Agreed NoAgreement → Agreed
verdict_values (Ok x) = x
verdict_values (Err e) = agreed no_answer 0
