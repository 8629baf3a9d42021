-- Sums of products over two lists of limbs, before their one reduction.
use Rattle.std.proofs.Common.{◌≡◌, ◌∙◌, refl, sym, ap, ap₂, arith, List, [], ℕ, zero, suc, ◌+◌, ◌*◌, ◌/◌, ◌^◌, ◌<◌, length, take, drop, get_or, drop-drop, get_or-drop, add-zero, lit<, not-suc-le-zero, le_of_suc-le-suc}
use Rattle.std.proofs.lemmas.List.{get_or-take}
use Rattle.std.specs.Simd.{first_chunks}
use lib.Arith.{digits_lt}
use lib.Bits.{xor_shr}
use Rattle.gf2.specs.Poly.{◌⊕◌, xsum, cmul}
use Rattle.gf2.specs.Residue.{rem, dot}
use Rattle.gf2.proofs.Sum.{xsum-lt, xsum_turn}
use Rattle.gf2.proofs.Dot.{rem-dot}
use Rattle.words.specs.declared.Limbs.{Limbs}
use Rattle.words.specs.Limbs.{value, limbs}
use Rattle.words.proofs.Value.{limbs-sum}
use Rattle.gf128.specs.Answers.{element}
use Rattle.gf128.proofs.Blocks.{rem_halves, cmul_values_lt}

-- two limbs of a list are an element
pair_at : (k : ℕ) (s : List ℕ) (i : ℕ) → i < k → get_or (first_chunks 2 k s) i [] ≡ take 2 (drop (2 * i) s)
pair_at zero s i h = absurd (not-suc-le-zero h)
pair_at (suc k) s zero h = refl
pair_at (suc k) s (suc i) h =
    let e : 2 + 2 * i ≡ 2 * suc i = omega arith in
    pair_at k (drop 2 s) i (le_of_suc-le-suc h) ∙ ap (take 2) (drop-drop (2 * i) 2 s ∙ ap (λ (n : ℕ). drop n s) e)

pub element-pair : (s : List ℕ) {pairs : List (List ℕ)} → pairs ≡ first_chunks 2 (length s / 2) s → length pairs ≡ length s / 2
    → (i : ℕ) → i < length pairs → {x : List ℕ} → x ≡ get_or pairs i [] → element x 0 ≡ element s i
element-pair s front len i h {x} e =
    let p : x ≡ take 2 (drop (2 * i) s) = e ∙ ap (λ l. get_or l i []) front ∙ pair_at (length s / 2) s i (rw len at h) in
    ap₂ (λ (u v : ℕ). u * 2 ^ 64 + v)
    (ap (λ l. get_or l 1 0) p ∙ get_or-take 2 (drop (2 * i) s) 1 0 (lit< tt) ∙ get_or-drop (2 * i) s 1 0)
    (ap (λ l. get_or l 0 0) p ∙ get_or-take 2 (drop (2 * i) s) 0 0 (lit< tt) ∙ get_or-drop (2 * i) s 0 0 ∙ ap (λ (n : ℕ). get_or s n 0) (add-zero (2 * i)))

module _ (a b : List ℕ) where
  -- the first k products, summed up
  abbrev pub products : ℕ → ℕ
  products k = xsum k (λ i. cmul (element a i) (element b i))

  -- one turn of the loop, in each half
  module _ (i : ℕ) (x y : Limbs) (p : value x ≡ element a i) (q : value y ≡ element b i) where
    more : products i ⊕ cmul (value x) (value y) ≡ products (i + 1)
    more = xsum_turn i (λ i. cmul (element a i) (element b i)) refl (ap₂ cmul p q)

    pub turn_low : {low l : Limbs} → low ≡ limbs (products i) → l ≡ limbs (cmul (value x) (value y))
        → limbs (value low ⊕ value l) ≡ limbs (products (i + 1))
    turn_low u v = limbs-sum (products i) (cmul (value x) (value y)) u v ∙ ap limbs more

    pub turn_high : {high h : Limbs} → high ≡ limbs (products i / 2 ^ 128) → h ≡ limbs (cmul (value x) (value y) / 2 ^ 128)
        → limbs (value high ⊕ value h) ≡ limbs (products (i + 1) / 2 ^ 128)
    turn_high u v =
        limbs-sum (products i / 2 ^ 128) (cmul (value x) (value y) / 2 ^ 128) u v
        ∙ ap limbs (sym (xor_shr (products i) (cmul (value x) (value y)) 128)) ∙ ap (λ (n : ℕ). limbs (n / 2 ^ 128)) more

  element-lt : (s : List ℕ) → ((i : ℕ) → get_or s i 0 < 2 ^ 64) → (i : ℕ) → element s i < 2 ^ 128
  element-lt s h i = digits_lt (h (2 * i + 1)) (h (2 * i))

  -- the end of the loop
  pub rem-products : ((i : ℕ) → get_or a i 0 < 2 ^ 64) → ((i : ℕ) → get_or b i 0 < 2 ^ 64) → (k : ℕ) {low high : Limbs}
      → low ≡ limbs (products k) → high ≡ limbs (products k / 2 ^ 128)
      → limbs (rem 128 0x87 (value high * 2 ^ 128 + value low)) ≡ limbs (dot 128 0x87 k (element a) (element b))
  rem-products ha hb k u v =
      rem_halves (products k) (xsum-lt 256 k (λ i l. cmul_values_lt (element-lt a ha i) (element-lt b hb i))) u v
      ∙ ap limbs (rem-dot 128 0x87 k (element a) (element b))
