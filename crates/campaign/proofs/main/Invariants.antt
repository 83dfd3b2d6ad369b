-- What the loop of `main` keeps.
use Rattle.std.proofs.Common.{◌≡◌, length}
use Rattle.campaign.proofs.main.Given as goal

abbrev pub invariant-loop-n : goal.invariant-loop-n
invariant-loop-n l = record {
  input : length l.input ≡ 65536;
  out : length l.out ≡ 65536;
}
