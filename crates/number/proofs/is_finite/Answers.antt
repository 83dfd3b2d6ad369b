-- `number::is_finite` meets its contract: of the values, only the infinities and the NaN are not below +∞ and above -∞. Assumes nothing.
use lib.Ieee.{neg}
use Rattle.number.proofs.Values.{upper, lower}
use Rattle.number.proofs.is_finite.Goals as goal

pub returns-then-top-x : goal.returns-then-top-x
unfolding neg
returns-then-top-x c = rw c.infinity-top.ensures (upper c.args.x (rw c.infinity-top.ensures at c.if-top-x.true))

pub returns-else-top-x : goal.returns-else-top-x
unfolding neg
returns-else-top-x c = rw c.infinity-top.ensures (lower c.args.x (rw c.infinity-top.ensures at c.if-top-x.false))
