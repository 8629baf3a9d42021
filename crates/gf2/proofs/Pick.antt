-- Which of two answers a test picks, told by the answers' numbers.
use mathlib.Core.Path.{◌≡◌, refl, sym, ap}
use mathlib.Core.Bool.{Bool, true, false}
use mathlib.Core.Logic.{◌↔◌, ◌≢◌}
use Prim.Native.Nat.{ℕ}
use Rattle.gf2.specs.Bits.{pick}

module _ {A : Type 0} (number : A → ℕ) (t : Bool) (x y : A) (apart : number x ≢ number y) where
  pub picks_first : (number (pick t x y) ≡ number x) ↔ (t ≡ true)
  picks_first = (there t, λ e. ap (λ (b : Bool). number (pick b x y)) e)
    where
      there : (b : Bool) → number (pick b x y) ≡ number x → b ≡ true
      there true e = refl
      there false e = absurd (apart (sym e))

  pub picks_second : (number (pick t x y) ≡ number y) ↔ (t ≡ false)
  picks_second = (there t, λ e. ap (λ (b : Bool). number (pick b x y)) e)
    where
      there : (b : Bool) → number (pick b x y) ≡ number y → b ≡ false
      there true e = absurd (apart e)
      there false e = refl
