-- What std's conversions between words and little-endian bytes say, in the words of the contracts.
use Rattle.std.proofs.Common.{◌≡◌, ◌∙◌, refl, sym, ap, ap₂, List, [], ◌∷◌, ℕ, zero, suc, ◌+◌, ◌*◌, ◌/◌, ◌%◌, ◌^◌, take, drop, add-one, add-zero, get_or, get_or-drop, div-one, slice_index}
use Rattle.std.proofs.Math.Nat.{pow-suc, div-div-eq-div-mul}
use Rattle.std.specs.Int.{sum_through, byte_worth, bytes_low_first, from_le_bytes, to_le_bytes, w64}
use Rattle.answers.specs.Lent.{word_of, bytes_of}
use Rattle.answers.proofs.Lent.{word_of-one, word_of_plus, pow-byte}

-- bytes past the first k do not matter
pub word_of-take : (k : ℕ) (s : List ℕ) → word_of k (take k s) ≡ word_of k s
unfolding word_of
word_of-take zero s = refl
word_of-take (suc k) [] = refl
word_of-take (suc k) (b ∷ s) = ap (λ (n : ℕ). b + n * 256) (word_of-take k s)

-- a byte more is eight bits more
pow-256 : (k : ℕ) → 256 ^ k ≡ 2 ^ (8 * k)
pow-256 zero = refl
pow-256 (suc k) = pow-suc 256 k ∙ ap (λ (n : ℕ). n * 256) (pow-256 k) ∙ sym (pow-byte k)

-- the sum that std makes of bytes, and the bytes that it takes from a number
bytes_worth : (k : ℕ) (s : List ℕ) → sum_through (λ i. byte_worth i (slice_index s i)) k ≡ word_of (suc k) s
bytes_worth zero s = sym (word_of-one s)
bytes_worth (suc k) s =
    let top : word_of 1 (drop (suc k) s) * 2 ^ (8 * suc k) ≡ get_or s (suc k) 0 * 256 ^ suc k =
    ap₂ (λ (x y : ℕ). x * y) (word_of-one (drop (suc k) s) ∙ get_or-drop (suc k) s 0 0 ∙ ap (λ (n : ℕ). get_or s n 0) (add-zero (suc k))) (sym (pow-256 (suc k))) in
    ap₂ (λ (x y : ℕ). x + y) (bytes_worth k s) (sym top) ∙ sym (word_of_plus (suc k) 1 s) ∙ ap (λ (n : ℕ). word_of n s) (add-one (suc k))

bytes_from : (i k n : ℕ) → bytes_low_first i k n ≡ bytes_of k (n / 256 ^ i)
unfolding bytes_of
bytes_from i zero n = refl
bytes_from zero (suc k) n =
    ap₂ (λ (x : ℕ) (s : List ℕ). x % 256 ∷ s) (sym (div-one n)) (bytes_from 1 k n ∙ ap (λ (m : ℕ). bytes_of k (m / 256)) (sym (div-one n)))
bytes_from (suc i) (suc k) n =
    let next : n / 256 ^ suc (suc i) ≡ n / 256 ^ suc i / 256 = ap (λ (m : ℕ). n / m) (pow-suc 256 (suc i)) ∙ sym (div-div-eq-div-mul n (256 ^ suc i) 256) in
    ap (λ (s : List ℕ). n / 256 ^ suc i % 256 ∷ s) (bytes_from (suc (suc i)) k n ∙ ap (bytes_of k) next)

pub from_le_bytes-first : (s : List ℕ) → from_le_bytes w64 (take 8 s) ≡ word_of 8 s
from_le_bytes-first s = bytes_worth 7 (take 8 s) ∙ word_of-take 8 s

pub to_le_bytes-is : (n : ℕ) → to_le_bytes w64 n ≡ bytes_of 8 n
to_le_bytes-is n = bytes_from 0 8 n ∙ ap (bytes_of 8) (div-one n)
