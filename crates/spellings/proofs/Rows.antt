-- Rows of n residues times square arrays of them: an array undoes another if their product is 1, which is a computed test.
use mathlib.Core.Path.{◌≡◌, sym, ap, ◌∙◌}
use mathlib.Core.Bool.{Bool}
use Prim.Native.Nat.{ℕ, ◌*◌, ◌^◌, ◌<◌}
use native.Mathlib.Nat.{zero-mul, one-mul}
use lib.Dec.{T, eqb, eqb→eq}
use Rattle.gf2.specs.Poly.{xsum}
use Rattle.gf2.specs.Residue.{mul}
use Rattle.spellings.specs.Lists.{times}
use Rattle.gf2.proofs.Xor.{bit_elim}
use Rattle.gf2.proofs.Linear.{all, all_at}
use Rattle.gf2.proofs.Sum.{δ, δ-lt, xsum_below, xsum-map, xsum-swap, xsum-δ}
use Rattle.gf2.proofs.Ring.{mul-zero_r, mul-one_r, mul-xor_l, mul-xor_r, mul_assoc}

-- the product of l and m is 1
unfoldable pub undo_test : ℕ → ℕ → (ℕ → ℕ → ℕ) → (ℕ → ℕ → ℕ) → Bool
undo_test n t l m = all n (λ i. all n (λ k. eqb (times n t (l i) m k) (δ i k)))

pub times_below : (n t : ℕ) {x y : ℕ → ℕ} (m : ℕ → ℕ → ℕ) (k : ℕ) → ((j : ℕ) → j < n → x j ≡ y j) → times n t x m k ≡ times n t y m k
unfolding times
times_below n t m k e = xsum_below n (λ j h. ap (λ (z : ℕ). mul n t z (m j k)) (e j h))

mul-bit : (n t a : ℕ) → a < 2 ^ n → {x : ℕ} → x < 2 → mul n t a x ≡ x * a
mul-bit n t a h =
    bit_elim (λ (x : ℕ). mul n t a x ≡ x * a) (mul-zero_r n t a ∙ sym (zero-mul a)) (mul-one_r n t a h ∙ sym (one-mul a))

module _ (n t : ℕ) (ht : t < 2 ^ n) (l m : ℕ → ℕ → ℕ) where
  -- a row times a product
  times-times : (x : ℕ → ℕ) (k : ℕ) → times n t (times n t x l) m k ≡ xsum n (λ i. mul n t (x i) (times n t (l i) m k))
  unfolding times
  times-times x k =
      xsum_below n (λ j h. xsum-map (λ (z : ℕ). mul n t z (m j k)) (λ a b. mul-xor_l n t a b (m j k)) n (λ i. mul n t (x i) (l i j)))
      ∙ xsum-swap n n (λ j i. mul n t (mul n t (x i) (l i j)) (m j k))
      ∙ xsum_below n (λ i h. xsum_below n (λ j g. mul_assoc n t ht (x i) (l i j) (m j k))
      ∙ sym (xsum-map (mul n t (x i)) (mul-xor_r n t (x i)) n (λ j. mul n t (l i j) (m j k))))

  pub times-undo : T (undo_test n t l m) → (x : ℕ → ℕ) → ((i : ℕ) → i < n → x i < 2 ^ n) → (k : ℕ) → k < n
      → times n t (times n t x l) m k ≡ x k
  unfolding undo_test
  times-undo ok x hx k hk =
      times-times x k ∙ xsum_below n (λ i h. ap (mul n t (x i)) (one i h) ∙ mul-bit n t (x i) (hx i h) (δ-lt i k)) ∙ xsum-δ n k hk x
    where
      one : (i : ℕ) → i < n → times n t (l i) m k ≡ δ i k
      one i h =
          eqb→eq (times n t (l i) m k) (δ i k)
          (all_at n (λ j. eqb (times n t (l i) m j) (δ i j)) (all_at n (λ i. all n (λ j. eqb (times n t (l i) m j) (δ i j))) ok i h) k hk)
