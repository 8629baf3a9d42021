use Rattle.std.proofs.Common.{◌≡◌, length, get_or}
use Rattle.words.specs.Limbs.{limbs}
use Rattle.gf64.proofs.Dot.{products}
use Rattle.gf64.proofs.poly_dot_64.Given as goal

abbrev pub invariant-loop-x : goal.invariant-loop-x
invariant-loop-x l = l.sum ≡ limbs (products (λ k. get_or l.a k 0) (λ k. get_or l.b k 0) (length l.yielded))
