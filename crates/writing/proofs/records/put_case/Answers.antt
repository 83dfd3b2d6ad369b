-- The parts of the record, one after the other. Assumes nothing.
use Rattle.std.proofs.Common.{append_assoc}
use lib.Ieee.{binary32}
use Rattle.writing.proofs.Encodings.{case-parts, flag-word}
use Rattle.writing.proofs.records.put_case.Goals as goal

pub returns : goal.returns
returns c =
    rw (case-parts binary32 c.args.case, ← flag-word c.args.case.exact)
    (simp (c.put_word.ensures, c.put_float.ensures, c.put_vector.ensures, c.put_pose.ensures, c.put_shape-2.ensures, c.put_shape.ensures, append_assoc, c.from.ensures))
