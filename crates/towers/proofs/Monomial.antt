-- Bit j of a value is the coefficient of the product of the generators that the bits of j name: bit i names X_i.
use mathlib.Core.Path.{◌≡◌, sym, ap, ◌∙◌}
use Prim.Native.Nat.{ℕ, zero, suc, ◌*◌, ◌%◌, ◌^◌, ◌<◌}
use native.Mathlib.Nat.{mod-lt, mod-one, one-mul, zero-mul, pow-zero, pow-suc, add_comm, mul-one}
use native.Mathlib.Numerals.{one-add}
use lib.Pow.{pow_pos, pow-lt, pow-add, mod-pow-add}
use Rattle.gf2.specs.Poly.{coef}
use Rattle.towers.specs.Level.{size}
use Rattle.towers.specs.Mul.{gen, tmul, monomial}
use Rattle.gf2.proofs.Xor.{bit_elim}
use Rattle.gf2.proofs.Shift.{coef-lt}
use Rattle.towers.proofs.Sum.{sum-ring}
use Rattle.towers.proofs.Level.{lo_low, hi_low, up_lt, join_high}
use Rattle.towers.proofs.Mul.{alpha_join}
use Rattle.towers.proofs.Ring.{zeros, tmul-one_l}
use Rattle.towers.proofs.Gen.{talpha_is}

power_one : (a : ℕ) → a ^ 1 ≡ a
power_one a = pow-suc a 0 ∙ simp (pow-zero, one-mul)

-- X_k times a value of level k
top_times : (k : ℕ) {a : ℕ} → a < size k → tmul (suc k) (gen (suc k)) a ≡ a * size k
top_times k {a} h =
    sym (talpha_is (suc k) a) ∙ alpha_join k a ∙ simp (lo_low, hi_low, zeros, sum-ring) (join_high k a)

times-bit : (k : ℕ) {a x : ℕ} → a < size k → x < 2 → tmul (suc k) (gen (suc k) ^ x) a ≡ a * 2 ^ (x * 2 ^ k)
times-bit k {a} h =
    bit_elim (λ (x : ℕ). tmul (suc k) (gen (suc k) ^ x) a ≡ a * 2 ^ (x * 2 ^ k))
    (simp (pow-zero, zero-mul, mul-one, tmul-one_l (suc k) (up_lt k h))) (simp (power_one, one-mul) (top_times k h))

-- a single bit stands for its monomial
pub monomial_is : (k j : ℕ) → monomial k j ≡ 2 ^ (j % 2 ^ k)
unfolding monomial coef
monomial_is zero j = simp mod-one
monomial_is (suc k) j =
    ap (tmul (suc k) (gen (suc k) ^ coef j k)) (monomial_is k j) ∙ times-bit k (pow-lt (mod-lt j (pow_pos k))) (coef-lt j k)
    ∙ sym (pow-add 2 (j % 2 ^ k) (coef j k * 2 ^ k)) ∙ ap (λ (e : ℕ). 2 ^ e) (add_comm (j % 2 ^ k) (coef j k * 2 ^ k) ∙ sym (mod-pow-add j 1 k) ∙ ap (λ (e : ℕ). j % 2 ^ e) (one-add k))
