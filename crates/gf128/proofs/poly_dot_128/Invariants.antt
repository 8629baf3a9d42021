use Rattle.std.proofs.Common.{◌≡◌, ◌/◌, ◌^◌, length}
use Rattle.words.specs.Limbs.{limbs}
use Rattle.gf128.proofs.Sums.{products}
use Rattle.gf128.proofs.poly_dot_128.Given as goal

abbrev pub invariant-loop-x : goal.invariant-loop-x
invariant-loop-x l = record {
  low : l.low ≡ limbs (products l.a l.b (length l.yielded));
  high : l.high ≡ limbs (products l.a l.b (length l.yielded) / 2 ^ 128);
}
