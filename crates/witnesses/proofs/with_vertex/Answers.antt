-- `with_vertex` returns the definition's `with_vertex`: refused where a reader is.
use Rattle.std.proofs.lemmas.Result.{err_from_is_err_and}
use Rattle.witnesses.specs.Witnesses.{with_vertex}
use Rattle.witnesses.proofs.with_vertex.Goals as goal

pub returns-in_err-coord : goal.returns-in_err-coord
unfolding with_vertex
returns-in_err-coord c =
    let p = err_from_is_err_and c.from_residual.result c.from_residual.ensures.1 in
    rw (p.1, p.2) (simp (← c.weight_of.ensures, c.in_err-coord.was))

pub returns-in_err-point : goal.returns-in_err-point
unfolding with_vertex
returns-in_err-point c =
    let p = err_from_is_err_and c.from_residual-in_err-point.result c.from_residual-in_err-point.ensures.1 in
    rw (p.1, p.2) (simp (← c.weight_of.ensures, c.in_ok-coord.was, ← c.corner_of.ensures, c.in_err-point.was))

pub returns : goal.returns
unfolding with_vertex
returns c = simp (← c.weight_of.ensures, c.in_ok-coord.was, ← c.corner_of.ensures, c.in_ok-point.was, c.mul.ensures, c.add.ensures, c.mul-2.ensures, c.add-2.ensures)
