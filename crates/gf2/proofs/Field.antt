-- Laws of a field of residues, each cited at the field's width.
use mathlib.Core.Path.{◌≡◌, sym, ap, ◌∙◌}
use mathlib.Core.Logic.{◌≢◌}
use Prim.Native.Nat.{ℕ, zero, suc, ◌*◌, ◌/◌, ◌%◌, ◌^◌, ◌<◌}
use native.Mathlib.Nat.{mul-zero, mul-suc, mod-add-div}
use lib.Pow.{pow-lt}
use Rattle.gf2.specs.Residue.{mul, sq, pow, frob, inv, root}
use Rattle.gf2.specs.Field.{Field}
use Rattle.gf2.proofs.Ring.{sq-lt}
use Rattle.gf2.proofs.Power.{frob_plus, pow-frob}
use Rattle.gf2.proofs.Inverse.{cancel}

module _ {n t : ℕ} (F : Field n t) where
  pub one-lt : 1 < 2 ^ n
  one-lt = pow-lt F.bits

  -- a factor that is not zero is cancelled
  pub mul_cancel : (a b : ℕ) → a < 2 ^ n → b < 2 ^ n → a ≢ 0 → mul n t (inv n t a) (mul n t a b) ≡ b
  mul_cancel = cancel n t F.tail F.inverse_lt F.inverse

  pub root-sq : (a : ℕ) → a < 2 ^ n → root n t (sq n t a) ≡ a
  root-sq a h = sym (F.only_root (sq n t a) a (sq-lt n t F.tail a) h (λ i. sq n t a))

  pub fermat : (a : ℕ) → a < 2 ^ n → pow n t a (2 ^ n) ≡ a
  fermat a h = pow-frob n t F.tail one-lt a n h ∙ F.squarings a h

  frob_turns : (q a : ℕ) → a < 2 ^ n → frob n t (n * q) a ≡ a
  unfolding frob
  frob_turns zero a h = ap (λ (k : ℕ). frob n t k a) (mul-zero n)
  frob_turns (suc q) a h =
      ap (λ (k : ℕ). frob n t k a) (mul-suc n q) ∙ frob_plus n t (n * q) n a ∙ ap (frob n t (n * q)) (F.squarings a h) ∙ frob_turns q a h

  -- of a number of squarings only the remainder by n matters
  pub frob-mod : (k a : ℕ) → a < 2 ^ n → frob n t k a ≡ frob n t (k % n) a
  frob-mod k a h =
      ap (λ (j : ℕ). frob n t j a) (sym (mod-add-div k n)) ∙ frob_plus n t (k % n) (n * (k / n)) a ∙ ap (frob n t (k % n)) (frob_turns (k / n) a h)
