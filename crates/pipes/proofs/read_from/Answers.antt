-- `read_from` answers with what the reader then has no more.
use Rattle.std.proofs.Common.{rules, subst, sym, ◌≡◌, ◌≤◌, ◌-◌, length}
use native.Mathlib.Omega.{arith}
use Rattle.std.specs.Io.KnownBytes.{Consumes}
use Rattle.pipes.proofs.Gone.{part-read}
use Rattle.pipes.proofs.read_from.Goals as goal

pub returns-in-Ok-clause-gone : goal.returns-in-Ok-clause-gone
returns-in-Ok-clause-gone g c =
    let few : c.in-Ok.n ≤ length c.read.new.buf = c.in-Ok.ensures.bound.0 in
    let whole : length c.read.new.buf ≡ length c.args.input.now - c.args.at = search rules in
    (search rules, subst (Consumes _ _) (sym (part-read c.args.at c.in-Ok.n c.args.input.now c.read.new.buf (omega (arith, c.if-input-at.false)) whole few)) c.in-Ok.ensures.bytes.0)
