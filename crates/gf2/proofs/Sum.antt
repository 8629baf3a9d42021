-- Sums over GF(2).
use mathlib.Core.Path.{◌≡◌, refl, sym, ap, ap₂, ◌∙◌}
use Prim.Native.Nat.{ℕ, zero, suc, ◌+◌, ◌*◌, ◌^◌, ◌<◌, zero-le, suc-le-suc}
use native.Mathlib.Nat.{zero-mul, one-mul, le_of_suc-le-suc, not-suc-le-zero}
use native.Mathlib.Numerals.{add-one}
use lib.Pow.{pow_pos}
use lib.Bits.{xor_zero_r, xor_lt}
use lib.Dec.{lit<}
use Rattle.gf2.specs.Poly.{◌⊕◌, xsum}
use Rattle.gf2.proofs.Xor.{xor_assoc, xor_medial}
use Rattle.gf2.proofs.Linear.{additive_zero}

-- 1 where i and j are equal, and else 0
unfoldable pub δ : ℕ → ℕ → ℕ
δ zero zero = 1
δ zero (suc j) = 0
δ (suc i) zero = 0
δ (suc i) (suc j) = δ i j

pub δ-lt : (i j : ℕ) → δ i j < 2
unfolding δ
δ-lt zero zero = lit< tt
δ-lt zero (suc j) = lit< tt
δ-lt (suc i) zero = lit< tt
δ-lt (suc i) (suc j) = δ-lt i j

pub δ_sym : (i j : ℕ) → δ i j ≡ δ j i
unfolding δ
δ_sym zero zero = refl
δ_sym zero (suc j) = refl
δ_sym (suc i) zero = refl
δ_sym (suc i) (suc j) = δ_sym i j

pub xsum-nil : (k : ℕ) → xsum k (λ i. 0) ≡ 0
unfolding xsum
xsum-nil zero = refl
xsum-nil (suc k) = xsum-nil k

-- term by term
pub xsum_below : (k : ℕ) {f g : ℕ → ℕ} → ((i : ℕ) → i < k → f i ≡ g i) → xsum k f ≡ xsum k g
unfolding xsum
xsum_below zero h = refl
xsum_below (suc k) h = ap₂ ◌⊕◌ (h 0 (suc-le-suc zero-le)) (xsum_below k (λ i l. h (suc i) (suc-le-suc l)))

pub xsum-lt : (m k : ℕ) {f : ℕ → ℕ} → ((i : ℕ) → i < k → f i < 2 ^ m) → xsum k f < 2 ^ m
unfolding xsum
xsum-lt m zero h = pow_pos m
xsum-lt m (suc k) {f} h = xor_lt m (f 0) (xsum k (λ i. f (suc i))) (h 0 (suc-le-suc zero-le)) (xsum-lt m k (λ i l. h (suc i) (suc-le-suc l)))

-- the last term
pub xsum_last : (k : ℕ) (f : ℕ → ℕ) → xsum (suc k) f ≡ xsum k f ⊕ f k
unfolding xsum
xsum_last zero f = xor_zero_r (f 0)
xsum_last (suc k) f = ap (λ (x : ℕ). f 0 ⊕ x) (xsum_last k (λ i. f (suc i))) ∙ sym (xor_assoc (f 0) (xsum k (λ i. f (suc i))) (f (suc k)))

-- one turn of a loop that sums up
pub xsum_turn : (k : ℕ) (f : ℕ → ℕ) {s x : ℕ} → s ≡ xsum k f → x ≡ f k → s ⊕ x ≡ xsum (k + 1) f
xsum_turn k f p q = ap₂ ◌⊕◌ p q ∙ sym (xsum_last k f) ∙ ap (λ (m : ℕ). xsum m f) (sym (add-one k))

pub xsum-xor : (k : ℕ) (f g : ℕ → ℕ) → xsum k (λ i. f i ⊕ g i) ≡ xsum k f ⊕ xsum k g
unfolding xsum
xsum-xor zero f g = refl
xsum-xor (suc k) f g =
    ap (λ (x : ℕ). f 0 ⊕ g 0 ⊕ x) (xsum-xor k (λ i. f (suc i)) (λ i. g (suc i)))
    ∙ xor_medial (f 0) (g 0) (xsum k (λ i. f (suc i))) (xsum k (λ i. g (suc i)))

-- a map that keeps XOR keeps sums
pub xsum-map : (h : ℕ → ℕ) → ((a b : ℕ) → h (a ⊕ b) ≡ h a ⊕ h b) → (k : ℕ) (f : ℕ → ℕ) → h (xsum k f) ≡ xsum k (λ i. h (f i))
unfolding xsum
xsum-map h e zero f = additive_zero 0 h (λ a b ha hb. e a b)
xsum-map h e (suc k) f = e (f 0) (xsum k (λ i. f (suc i))) ∙ ap (λ (x : ℕ). h (f 0) ⊕ x) (xsum-map h e k (λ i. f (suc i)))

pub xsum-swap : (m k : ℕ) (f : ℕ → ℕ → ℕ) → xsum m (λ i. xsum k (λ j. f i j)) ≡ xsum k (λ j. xsum m (λ i. f i j))
unfolding xsum
xsum-swap zero k f = sym (xsum-nil k)
xsum-swap (suc m) k f =
    ap (λ (x : ℕ). xsum k (f 0) ⊕ x) (xsum-swap m k (λ i. f (suc i))) ∙ sym (xsum-xor k (f 0) (λ j. xsum m (λ i. f (suc i) j)))

-- the one term that δ picks
pub xsum-δ : (k j : ℕ) → j < k → (f : ℕ → ℕ) → xsum k (λ i. δ i j * f i) ≡ f j
unfolding xsum δ
xsum-δ zero j h f = absurd (not-suc-le-zero h)
xsum-δ (suc k) zero h f = simp (one-mul, zero-mul, xsum-nil k, xor_zero_r)
xsum-δ (suc k) (suc j) h f = simp zero-mul (xsum-δ k j (le_of_suc-le-suc h) (λ i. f (suc i)))
