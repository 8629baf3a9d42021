-- A loop that squares: what stands in it after k turns. Over the width and the polynomial.
use mathlib.Core.Path.{◌≡◌, sym, ap, ◌∙◌}
use Prim.Native.Nat.{ℕ, ◌+◌}
use native.Mathlib.Numerals.{add-one}
use Rattle.gf2.specs.Residue.{mul, sq, frob}
use Rattle.gf2.proofs.Ring.{sq_is}

module _ (n t : ℕ) where
  pub frob_none : (a : ℕ) → a ≡ frob n t 0 a
  unfolding frob
  frob_none a = λ i. a

  pub frob_turn : (k a : ℕ) {x y : ℕ} → x ≡ frob n t k a → y ≡ mul n t x x → y ≡ frob n t (k + 1) a
  unfolding frob
  frob_turn k a {x} p q = q ∙ sym (sq_is n t x) ∙ ap (sq n t) p ∙ ap (λ (m : ℕ). frob n t m a) (sym (add-one k))
