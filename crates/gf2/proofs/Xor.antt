-- XOR of native numbers as the addition of polynomials over GF(2): bit i of a number is the coefficient of x^i.
-- The sum is `bit_xor` of lib.Bits itself, which is what a contract says of `^` on machine words.
use mathlib.Core.Path.{◌≡◌, refl, sym, ap, ap₂, ◌∙◌}
use Prim.Native.Nat.{ℕ, zero, suc, ◌+◌, ◌*◌, ◌/◌, ◌%◌, ◌<◌}
use native.Mathlib.Nat.{mod-lt, div-add-mod', le_of_suc-le-suc, not-suc-le-zero}
use lib.Arith.{bin_ind}
use lib.Bits.{bit_xor, xor_shr, xor_mod, xor_comm, xor_self, xor_zero_r}
use lib.Dec.{lit<}
use Rattle.gf2.specs.Poly.{◌⊕◌}

-- a bit is 0 or 1
pub bit_elim {ℓ} : (P : ℕ → Type ℓ) → P 0 → P 1 → {x : ℕ} → x < 2 → P x
bit_elim P p q {x = zero} h = p
bit_elim P p q {x = suc zero} h = q
bit_elim P p q {x = suc (suc x)} h = absurd (not-suc-le-zero (le_of_suc-le-suc (le_of_suc-le-suc h)))

pub bit-lt : (a : ℕ) → a % 2 < 2
bit-lt a = mod-lt a (lit< tt)

-- a number is its lowest bit and the rest
pub xor_half : (a b : ℕ) → (a ⊕ b) / 2 ≡ a / 2 ⊕ b / 2
xor_half a b = xor_shr a b 1

pub xor-bit : (a b : ℕ) → (a ⊕ b) % 2 ≡ a % 2 ⊕ b % 2
xor-bit a b = xor_mod a b 1

bits_assoc : {x y z : ℕ} → x < 2 → y < 2 → z < 2 → x ⊕ y ⊕ z ≡ x ⊕ (y ⊕ z)
bits_assoc {x} {y} {z} hx hy hz =
    bit_elim (λ (x : ℕ). x ⊕ y ⊕ z ≡ x ⊕ (y ⊕ z)) refl
    (bit_elim (λ (y : ℕ). 1 ⊕ y ⊕ z ≡ 1 ⊕ (y ⊕ z)) refl (bit_elim (λ (z : ℕ). 1 ⊕ 1 ⊕ z ≡ 1 ⊕ (1 ⊕ z)) refl refl hz) hy) hx

-- two numbers with the same half and the same lowest bit are equal
pub by_half : {a b : ℕ} → a / 2 ≡ b / 2 → a % 2 ≡ b % 2 → a ≡ b
by_half {a} {b} p q = sym (div-add-mod' a 2) ∙ ap₂ (λ (x y : ℕ). x * 2 + y) p q ∙ div-add-mod' b 2

pub xor_assoc : (a b c : ℕ) → a ⊕ b ⊕ c ≡ a ⊕ (b ⊕ c)
xor_assoc =
    bin_ind (λ (a : ℕ). (b c : ℕ) → a ⊕ b ⊕ c ≡ a ⊕ (b ⊕ c)) (λ b c. refl)
    (λ a ih b c. by_half (simp (xor_half, ih)) (simp xor-bit (bits_assoc (bit-lt a) (bit-lt b) (bit-lt c))))

-- ---- the group laws

pub xor_left_comm : (a b c : ℕ) → a ⊕ (b ⊕ c) ≡ b ⊕ (a ⊕ c)
xor_left_comm a b c = sym (xor_assoc a b c) ∙ ap (λ (x : ℕ). x ⊕ c) (xor_comm a b) ∙ xor_assoc b a c

pub xor_cancel : (a b : ℕ) → a ⊕ (a ⊕ b) ≡ b
xor_cancel a b = sym (xor_assoc a a b) ∙ ap (λ (x : ℕ). x ⊕ b) (xor_self a)

-- sorts a sum and drops what stands in it twice
pub ruleset xor-ring = (xor_assoc, xor_comm, xor_left_comm, xor_self, xor_cancel, xor_zero_r)

pub xor_medial : (a b c d : ℕ) → (a ⊕ b) ⊕ (c ⊕ d) ≡ (a ⊕ c) ⊕ (b ⊕ d)
xor_medial a b c d = simp xor-ring

pub xor-eq : (a b : ℕ) → a ⊕ b ≡ 0 → a ≡ b
xor-eq a b e = sym (xor_zero_r a) ∙ ap (λ (x : ℕ). a ⊕ x) (sym e) ∙ xor_cancel a b
