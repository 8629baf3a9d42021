-- Maps given by their columns, and products that keep sums on both sides: what a computed test shows of them.
use mathlib.Core.Path.{◌≡◌}
use mathlib.Core.Bool.{Bool, true, ◌&&◌}
use mathlib.Core.List.{List, [], ◌∷◌}
use Prim.Native.Nat.{ℕ, ◌*◌, ◌/◌, ◌%◌, ◌^◌, ◌<◌}
use lib.Pow.{pow_pos}
use lib.Bits.{xor_lt}
use lib.Dec.{T, eqb, ltb, ltb→lt}
use Rattle.gf2.specs.Linear.{Additive, apply}
use Rattle.gf2.proofs.Xor.{bit-lt}
use Rattle.gf2.proofs.Shift.{bit-mul-lt}
use Rattle.gf2.proofs.Linear.{all, all_at, linear_ext, linear_test, and_l, and_r}

-- each column has n bits
abbrev pub every : ℕ → List ℕ → Bool
every n [] = true
every n (c ∷ cs) = ltb c (2 ^ n) && every n cs

pub columns-lt : (n : ℕ) (cs : List ℕ) → T (every n cs) → (a : ℕ) → apply cs a < 2 ^ n
unfolding apply
columns-lt n [] ok a = pow_pos n
columns-lt n (c ∷ cs) ok a =
    xor_lt n (a % 2 * c) (apply cs (a / 2)) (bit-mul-lt n (bit-lt a) (ltb→lt c (2 ^ n) (and_l (ltb c (2 ^ n)) (every n cs) ok)))
    (columns-lt n cs (and_r (ltb c (2 ^ n)) (every n cs) ok) (a / 2))

-- f keeps the sums of numbers of n bits on both sides
pub record Bilinear (n : ℕ) (f : ℕ → ℕ → ℕ) : Type 0 where
  pub left : (b : ℕ) → Additive n (λ a. f a b)
  pub right : (a : ℕ) → Additive n (f a)

-- two that agree on the pairs of single bits agree everywhere
pub bilinear_test : (n : ℕ) (f g : ℕ → ℕ → ℕ) → Bilinear n f → Bilinear n g
    → T (all n (λ i. all n (λ j. eqb (f (2 ^ i) (2 ^ j)) (g (2 ^ i) (2 ^ j))))) → (a b : ℕ) → a < 2 ^ n → b < 2 ^ n → f a b ≡ g a b
bilinear_test n f g hf hg ok a b ha hb =
    linear_ext n (λ a. f a b) (λ a. g a b) (hf.left b) (hg.left b)
    (λ i l. linear_test n (f (2 ^ i)) (g (2 ^ i)) (hf.right (2 ^ i)) (hg.right (2 ^ i))
    (all_at n (λ i. all n (λ j. eqb (f (2 ^ i) (2 ^ j)) (g (2 ^ i) (2 ^ j)))) ok i l) b hb) a ha
