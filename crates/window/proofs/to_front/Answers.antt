-- `to_front` leaves what `front_of` does. The invariant: the first i bytes are moved. Assumes nothing.
use Rattle.std.proofs.Common.{◌≡◌, ℕ, ◌+◌, ◌-◌, ◌<◌, List, length, get_or, take, drop, set, ap, ◌∙◌, arith, le-ltb}
use lib.Seq.{sets}
use Rattle.window.specs.Window.{front_of}
use Rattle.window.proofs.Fronts.{one-more-front}
use Rattle.window.proofs.to_front.Goals as goal

pub loop-i-preserved : goal.loop-i-preserved
loop-i-preserved c =
    let k = c.loop-i in
    let a = c.args in
    let here : a.from + k.i < length a.bytes.now = omega arith in
    ap (λ (o : List ℕ). set o k.i (get_or o (a.from + k.i) 0)) k.invariant ∙ one-more-front a.bytes.now a.from k.i here

pub returns : goal.returns
unfolding front_of
returns c =
    let k = c.loop-i in
    let a = c.args in
    let all : k.i ≡ a.until - a.from = omega arith in
    rw (le-ltb _ _ c.if-bytes-until.false, le-ltb _ _ c.if-until-from.false) (k.invariant ∙ ap (λ (m : ℕ). sets a.bytes.now 0 (take m (drop a.from a.bytes.now))) all)
