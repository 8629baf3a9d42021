-- A fold over pairs that adds a term for each is the terms' sum.
use mathlib.Core.Path.{◌≡◌, sym, ap, ◌∙◌}
use mathlib.Core.List.{List, [], ◌∷◌}
use Prim.Native.Nat.{ℕ, zero, suc}
use native.Mathlib.Omega.{arith}
use lib.Bits.{xor_zero_r}
use lib.ListN.{length, get_or}
use Rattle.std.specs.List.{fold, zip}
use Rattle.gf2.specs.Poly.{◌⊕◌, xsum}
use Rattle.gf2.proofs.Xor.{xor_assoc}

-- v reads the sum so far, to which each turn adds the term of a pair
module _ {A B C : Type 0} (v : C → ℕ) (step : C → A × B → C) (term : A → B → ℕ) (turn : (s : C) (x : A) (y : B) → v (step s (x, y)) ≡ v s ⊕ term x y) (d : A) (e : B) where
  pub folded_sum : (xs : List A) (ys : List B) (n : ℕ) (s : C) → length xs ≡ n → length ys ≡ n
      → v (fold step s (zip xs ys)) ≡ v s ⊕ xsum n (λ j. term (get_or xs j d) (get_or ys j e))
  unfolding xsum
  folded_sum [] ys zero s p q = sym (xor_zero_r (v s))
  folded_sum [] ys (suc n) s p q = absurd (omega arith)
  folded_sum (x ∷ xs) [] n s p q = absurd (omega arith)
  folded_sum (x ∷ xs) (y ∷ ys) zero s p q = absurd (omega arith)
  folded_sum (x ∷ xs) (y ∷ ys) (suc n) s p q =
      let rest : ℕ = xsum n (λ j. term (get_or xs j d) (get_or ys j e)) in
      folded_sum xs ys n (step s (x, y)) (omega arith) (omega arith) ∙ ap (λ (a : ℕ). a ⊕ rest) (turn s x y) ∙ xor_assoc (v s) (term x y) rest
