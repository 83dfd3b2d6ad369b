-- A quaternion and a translation. Assumes nothing.
use Rattle.casefile.specs.Records.{pose_of}
use Rattle.casefile.proofs.records.pose_of.Goals as goal

pub returns : goal.returns
unfolding pose_of
returns c = simp (c.vector_of-v.ensures, c.float_of.ensures, c.vector_of.ensures)
