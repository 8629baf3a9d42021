-- An answer picked by a test between a value and a refusal has the refusal's number exactly where the test says so.
use mathlib.Core.Path.{◌≡◌, refl, sym, ◌∙◌}
use mathlib.Core.Bool.{Bool, true, false, true≢false, false≢true}
use mathlib.Core.Logic.{◌↔◌, ◌≢◌}
use Prim.Native.Nat.{ℕ, suc, ◌<◌}
use native.Mathlib.Omega.{arith}
use lib.Dec.{leb, eqb}
use borrow.Author.Tests.{leb-false, lt-leb, eqb-true, eqb-false, eq-eqb, ne_eqb}
use Rattle.gf2.specs.Bits.{pick}

module _ {A : Type 0} (number : A → ℕ) (value refusal : A) (m : ℕ) (accepted : number value ≡ 0) (refused : number refusal ≡ suc m) where
  apart : number value ≡ suc m → ⊥
  apart e = let z : ◌≡◌ {A = ℕ} 0 (suc m) = sym accepted ∙ e in omega arith

  pub refused_false : (b : Bool) → (number (pick b value refusal) ≡ suc m) ↔ (b ≡ false)
  refused_false true = (λ e. absurd (apart e), λ e. absurd (true≢false e))
  refused_false false = (λ e. refl, λ e. refused)

  pub refused_true : (b : Bool) → (number (pick b refusal value) ≡ suc m) ↔ (b ≡ true)
  refused_true true = (λ e. refl, λ e. refused)
  refused_true false = (λ e. absurd (apart e), λ e. absurd (false≢true e))

  -- by an order, and by an equation
  pub refused_below : (k n : ℕ) → (number (pick (leb k n) value refusal) ≡ suc m) ↔ (n < k)
  refused_below k n = (λ e. leb-false k n ((refused_false (leb k n)).0 e), λ h. (refused_false (leb k n)).1 (lt-leb k n h))

  pub refused_unequal : (a b : ℕ) → (number (pick (eqb a b) value refusal) ≡ suc m) ↔ (a ≢ b)
  refused_unequal a b = (λ e. eqb-false a b ((refused_false (eqb a b)).0 e), λ h. (refused_false (eqb a b)).1 (ne_eqb a b h))

  pub refused_equal : (a b : ℕ) → (number (pick (eqb a b) refusal value) ≡ suc m) ↔ (a ≡ b)
  refused_equal a b = (λ e. eqb-true a b ((refused_true (eqb a b)).0 e), λ h. (refused_true (eqb a b)).1 (eq-eqb a b h))
