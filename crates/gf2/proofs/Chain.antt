-- Addition chains for the inverse (Itoh and Tsujii): powers a^(2^k - 1) from shorter ones.
use mathlib.Core.Path.{◌≡◌, sym, ap, ◌∙◌}
use Prim.Native.Nat.{ℕ, zero, suc, ◌+◌, ◌-◌, ◌*◌, ◌^◌, ◌<◌}
use native.Mathlib.Nat.{mul-one, mul_assoc, pow-suc}
use native.Mathlib.Omega.{arith}
use lib.Pow.{ones_split, high_ones}
use Rattle.gf2.specs.Residue.{mul, sq, pow, frob, inv}
use Rattle.gf2.proofs.Ring.{sq_is}
use Rattle.gf2.proofs.Power.{pow_plus}

module _ (n t : ℕ) (ht : t < 2 ^ n) (one-lt : 1 < 2 ^ n) where
  twice : (m : ℕ) → m * 2 ≡ m + m
  twice m = omega arith

  pub pow-times : (a i j : ℕ) → pow n t a (i * 2 ^ j) ≡ frob n t j (pow n t a i)
  unfolding frob
  pow-times a i zero = ap (pow n t a) (mul-one i)
  pow-times a i (suc j) =
      ap (pow n t a) (ap (λ (x : ℕ). i * x) (pow-suc 2 j) ∙ sym (mul_assoc i (2 ^ j) 2) ∙ twice (i * 2 ^ j))
      ∙ pow_plus n t ht one-lt a (i * 2 ^ j) (i * 2 ^ j) ∙ sym (sq_is n t (pow n t a (i * 2 ^ j))) ∙ ap (sq n t) (pow-times a i j)

  -- a^(2^(i + j) - 1) is a^(2^i - 1), squared j times, times a^(2^j - 1)
  pub pow-ones : (a i j : ℕ) → pow n t a (2 ^ (i + j) - 1) ≡ mul n t (frob n t j (pow n t a (2 ^ i - 1))) (pow n t a (2 ^ j - 1))
  pow-ones a i j =
      ap (pow n t a) (ones_split i j) ∙ pow_plus n t ht one-lt a ((2 ^ i - 1) * 2 ^ j) (2 ^ j - 1)
      ∙ ap (λ (x : ℕ). mul n t x (pow n t a (2 ^ j - 1))) (pow-times a (2 ^ i - 1) j)

-- the chain's end
pub inv-ones : (m t : ℕ) → t < 2 ^ (m + 1) → 1 < 2 ^ (m + 1) → (a : ℕ)
    → inv (m + 1) t a ≡ sq (m + 1) t (pow (m + 1) t a (2 ^ m - 1))
unfolding inv frob
inv-ones m t ht h a = ap (pow (m + 1) t a) (high_ones m 1) ∙ pow-times (m + 1) t ht h a (2 ^ m - 1) 1
