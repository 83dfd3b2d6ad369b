-- `separation_cast` answers what the cast does, or that a kind is none.
use Rattle.embedding.proofs.impact.separation_cast.Goals as goal

pub returns-in_default : goal.returns-in_default
returns-in_default c = simp (← c.shape_of.ensures, ← c.malformed_cast.ensures, c.in_default.is)

pub returns-in_default-shape_of : goal.returns-in_default-shape_of
returns-in_default-shape_of c = simp (← c.shape_of.ensures, ← c.shape_of-2.ensures, ← c.malformed_cast-in_default-shape_of.ensures, c.in_default-shape_of.is, c.in-Some.is)

pub returns : goal.returns
returns c =
    let at = c in
    simp (← at.shape_of.ensures, ← at.shape_of-2.ensures, ← c.minkowski_ray_cast.ensures.answer, ← c.cast_record.ensures, at.in-Some-shape_of.is, at.in-Some.is)
