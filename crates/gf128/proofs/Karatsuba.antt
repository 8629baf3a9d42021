-- The unreduced product of two elements from three products of words.
use mathlib.Core.Path.{◌≡◌, sym, ap, ap₂, ◌∙◌}
use Prim.Native.Nat.{ℕ, ◌*◌, ◌/◌, ◌^◌, ◌<◌}
use lib.Bits.{xor_comm, xor_lt}
use Rattle.gf2.specs.Poly.{◌⊕◌, cmul}
use Rattle.gf2.proofs.Fold.{cmul_blocks, karatsuba}
use Rattle.words.specs.declared.Limbs.{Limbs}
use Rattle.words.specs.Limbs.{value, limbs}
use Rattle.words.proofs.Value.{pair, add, value-xor, limbs-xor, limbs-sum}
use Rattle.clmul.proofs.Halves.{cmul_words_lt}
use Rattle.gf128.proofs.Blocks.{blocks_low, blocks_high}

module _ (a b : Limbs) (a₀ : a.low < 2 ^ 64) (a₁ : a.high < 2 ^ 64) (b₀ : b.low < 2 ^ 64) (b₁ : b.high < 2 ^ 64) where
  -- the products of the low halves, of the high ones, and of the sums; the cross terms
  abbrev L : ℕ
  L = cmul a.low b.low

  abbrev H : ℕ
  H = cmul a.high b.high

  abbrev K : ℕ
  K = cmul (a.low ⊕ a.high) (b.low ⊕ b.high)

  abbrev M : ℕ
  M = K ⊕ L ⊕ H

  product_blocks : cmul (value a) (value b) ≡ H * 2 ^ 128 ⊕ M * 2 ^ 64 ⊕ L
  product_blocks =
      ap₂ cmul (value-xor a a₀) (value-xor b b₀) ∙ cmul_blocks 64 a.high a.low b.high b.low
      ∙ ap (λ (x : ℕ). H * 2 ^ 128 ⊕ x * 2 ^ 64 ⊕ L)
      (xor_comm (cmul a.high b.low) (cmul a.low b.high) ∙ sym (karatsuba a.low a.high b.low b.high))

  L-lt : L < 2 ^ 128
  L-lt = cmul_words_lt a₀ b₀

  M-lt : M < 2 ^ 128
  M-lt =
      xor_lt 128 (K ⊕ L) H
      (xor_lt 128 K L (cmul_words_lt (xor_lt 64 a.low a.high a₀ a₁) (xor_lt 64 b.low b.high b₀ b₁)) L-lt) (cmul_words_lt a₁ b₁)

  -- as the code has it, from the limbs of two products and of the middle term
  module _ {l h m : Limbs} (p : l ≡ limbs L) (q : h ≡ limbs H) (r : m ≡ limbs M) where
    pub middle_low : pair l.low (l.high ⊕ m.low) ≡ limbs (cmul (value a) (value b))
    middle_low =
        (λ i. pair (p i).low ((p i).high ⊕ (r i).low)) ∙ ap (pair (limbs L).low) (xor_comm (limbs L).high (limbs M).low)
        ∙ sym (ap limbs product_blocks ∙ blocks_low H M L M-lt L-lt)

    pub middle_high : pair (h.low ⊕ m.high) h.high ≡ limbs (cmul (value a) (value b) / 2 ^ 128)
    middle_high =
        (λ i. pair ((q i).low ⊕ (r i).high) (q i).high)
        ∙ sym (ap (λ (x : ℕ). limbs (x / 2 ^ 128)) product_blocks ∙ blocks_high H M L M-lt L-lt)

  -- the middle term, summed up limb by limb
  pub middle : {l h k t m : Limbs} → l ≡ limbs L → h ≡ limbs H → k ≡ limbs K → t ≡ limbs (value k ⊕ value l)
      → m ≡ limbs (value t ⊕ value h) → m ≡ limbs M
  middle p q r s t = t ∙ limbs-sum (K ⊕ L) H (s ∙ limbs-sum K L r p) q

  -- from the limbs of the three products
  module _ {l h m : Limbs} (p : l ≡ limbs L) (q : h ≡ limbs H) (r : m ≡ limbs K) where
    M-limbs : add (add m l) h ≡ limbs M
    M-limbs =
        (λ i. add (add (r i) (p i)) (q i))
        ∙ sym (limbs-xor (K ⊕ L) H ∙ ap (λ (x : Limbs). add x (limbs H)) (limbs-xor K L))

    pub karatsuba_low : pair l.low (l.high ⊕ (m.low ⊕ l.low ⊕ h.low)) ≡ limbs (cmul (value a) (value b))
    karatsuba_low = middle_low p q M-limbs

    pub karatsuba_high : pair (h.low ⊕ (m.high ⊕ l.high ⊕ h.high)) h.high ≡ limbs (cmul (value a) (value b) / 2 ^ 128)
    karatsuba_high = middle_high p q M-limbs
