-- THE TOWER: the statement of specs/Theorem.antt, proved at every level.
use mathlib.Core.Path.{◌≡◌, sym, ap, ◌∙◌}
use Prim.Native.Nat.{ℕ, ◌*◌, ◌^◌, ◌<◌}
use native.Mathlib.Nat.{mod-eq_of_lt}
use Rattle.gf2.specs.Poly.{coef, xsum}
use Rattle.gf2.specs.Bits.{poly}
use Rattle.towers.specs.Level.{◌⊞◌, size}
use Rattle.towers.specs.Mul.{monomial}
use Rattle.towers.specs.Theorem.{Tower}
use Rattle.gf2.proofs.Shift.{coef-lt, ext_below}
use Rattle.gf2.proofs.Bits.{poly-lt, coef-poly}
use Rattle.gf2.proofs.Sum.{xsum_below}
use Rattle.towers.proofs.Mul.{tmul-lt}
use Rattle.towers.proofs.Ring.{tmul_comm, tmul_assoc, tmul-one_l, tmul-sum_l}
use Rattle.towers.proofs.Gen.{gen_relation, tmul-up}
use Rattle.towers.proofs.Monomial.{monomial_is}

-- a value is the sum of the monomials of its bits
pub value_is : (k a : ℕ) → a < size k → a ≡ xsum (2 ^ k) (λ j. coef a j * monomial k j)
unfolding poly
value_is k a h =
    ext_below (2 ^ k) a (poly (2 ^ k) (coef a)) h (poly-lt (2 ^ k) (coef a) (coef-lt a)) (λ i l. sym (coef-poly (2 ^ k) (coef a) (coef-lt a) i l))
    ∙ xsum_below (2 ^ k) (λ j l. ap (λ (m : ℕ). coef a j * m) (sym (monomial_is k j ∙ ap (λ (e : ℕ). 2 ^ e) (mod-eq_of_lt l))))

pub tower : (k : ℕ) → Tower k
unfolding ◌⊞◌
tower k =
    record {
      below = tmul-lt k;
      comm = tmul_comm k;
      assoc = tmul_assoc k;
      one = λ a h. tmul-one_l k h;
      sum = tmul-sum_l k;
      relation = gen_relation k;
      up = λ a b ha hb. tmul-up k ha hb;
      bits = value_is k;
    }
