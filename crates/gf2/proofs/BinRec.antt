-- Recursion on a number's binary digits. The depth given is the number itself, and the recursion stops as soon as the
-- digits run out, so at a numeral it takes as many steps as that has digits; at a variable it is stuck, and
-- `bin_rec_step` is all that a proof needs.
use mathlib.Core.Path.{◌≡◌, refl, ap, ◌∙◌}
use Prim.Native.Nat.{ℕ, zero, suc, ◌/◌, ◌≤◌}
use native.Mathlib.Nat.{le_refl, not-suc-le-zero}
use native.Mathlib.Decide.{le_ind}
use lib.Arith.{half_le}
use Rattle.gf2.specs.Poly.{bin_go, bin_rec}

module _ (z : ℕ) (s : ℕ → ℕ → ℕ) where
  more : (f a : ℕ) → a ≤ f → bin_go z s (suc f) a ≡ bin_go z s f a
  unfolding bin_go
  more zero zero h = refl
  more zero (suc a) h = absurd (not-suc-le-zero h)
  more (suc f) zero h = refl
  more (suc f) (suc a) h = ap (s (suc a)) (more f (suc a / 2) (half_le h))

  enough : (f a : ℕ) → a ≤ f → bin_go z s f a ≡ bin_go z s a a
  enough f a h = le_ind (λ (m : ℕ). bin_go z s m a ≡ bin_go z s a a) refl (λ m k e. more m a k ∙ e) f h

  pub bin_rec-zero : bin_rec z s 0 ≡ z
  unfolding bin_rec bin_go
  bin_rec-zero = refl

  -- `z` is what the recursion would give
  pub bin_rec_step : z ≡ s 0 z → (a : ℕ) → bin_rec z s a ≡ s a (bin_rec z s (a / 2))
  unfolding bin_rec bin_go
  bin_rec_step hz zero = hz
  bin_rec_step hz (suc a) = ap (s (suc a)) (enough a (suc a / 2) (half_le (le_refl (suc a))))
