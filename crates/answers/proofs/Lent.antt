-- Numbers in lent bytes, low byte first: each law once over the number of bytes.
use Rattle.std.proofs.Common.{◌≡◌, ◌∙◌, refl, length, set, take, drop, sym, ap, ap₂, zero-add, suc-add, zero-mul, mul-one, add-zero, div-one, not-suc-le-zero, add-one, arith, lit<, pow-add, shr-shr, List, [], ◌∷◌, ◌++◌, ℕ, zero, suc, ◌+◌, ◌*◌, ◌/◌, ◌%◌, ◌^◌, ◌≤◌, ◌<◌, mul_assoc, add_comm, le_of_suc-le-suc, get_or, get_or-drop, shl_exact, pow_pos}
use Rattle.std.proofs.Math.Nat.{mod-one}
use Rattle.std.proofs.Math.Arith.{mod-mul}
use Rattle.std.specs.Int.Bits.{xor_comm, xor_shifted}
use Rattle.std.proofs.Math.Seq.{paste, paste-suc}
use Rattle.std.proofs.lemmas.List.Edits.{length-paste}
use Rattle.gf2.specs.Poly.{◌⊕◌}
use Rattle.answers.specs.Lent.{word_of, bytes_of, Bytes}

-- one byte more
pub pow-byte : (k : ℕ) → 2 ^ (8 * suc k) ≡ 2 ^ (8 * k) * 256
pow-byte k = let e : 8 * suc k ≡ 8 * k + 8 = omega arith in ap (λ (n : ℕ). 2 ^ n) e ∙ pow-add 2 (8 * k) 8

-- ---- the number of some bytes

pub word_of-nil : (k : ℕ) → word_of k [] ≡ 0
unfolding word_of
word_of-nil zero = refl
word_of-nil (suc k) = refl

pub word_of-lt : (k : ℕ) (s : List ℕ) → Bytes s → word_of k s < 2 ^ (8 * k)
unfolding word_of
word_of-lt zero s h = lit< tt
word_of-lt (suc k) [] h = pow_pos (8 * suc k)
word_of-lt (suc k) (b ∷ s) h = rw (pow-byte k) (omega (arith, h 0, word_of-lt k s (λ i. h (suc i))))

-- the first j bytes, and k more above them
pub word_of_plus : (j k : ℕ) (s : List ℕ) → word_of (j + k) s ≡ word_of j s + word_of k (drop j s) * 2 ^ (8 * j)
unfolding word_of
word_of_plus zero k s = simp (zero-add, mul-one)
word_of_plus (suc j) k [] = simp (suc-add, word_of-nil k, zero-mul)
word_of_plus (suc j) k (b ∷ s) =
    let e : word_of k (drop j s) * 2 ^ (8 * j) * 256 ≡ word_of k (drop j s) * 2 ^ (8 * suc j) =
    mul_assoc (word_of k (drop j s)) (2 ^ (8 * j)) 256 ∙ ap (λ (n : ℕ). word_of k (drop j s) * n) (sym (pow-byte j)) in
    rw suc-add (omega (arith, e, word_of_plus j k s))

-- a loop that takes byte after byte into a word: before the first turn, and one turn
pub word_of_none : (s : List ℕ) → 0 ≡ word_of 0 s
unfolding word_of
word_of_none s = refl

pub word_of-one : (s : List ℕ) → word_of 1 s ≡ get_or s 0 0
unfolding word_of
word_of-one [] = refl
word_of-one (b ∷ s) = add-zero b

pub word_of_turn : (w k : ℕ) (s : List ℕ) → Bytes s → 8 + 8 * k ≤ w → {x y : ℕ} → x ≡ word_of k s → y ≡ get_or s k 0
    → x ⊕ y * 2 ^ (8 * k) % 2 ^ w ≡ word_of (k + 1) s
word_of_turn w k s h l p q =
    let b : get_or s k 0 < 2 ^ 8 = h k in
    let f : word_of 1 (drop k s) ≡ get_or s k 0 = word_of-one (drop k s) ∙ get_or-drop k s 0 0 ∙ ap (λ (n : ℕ). get_or s n 0) (add-zero k) in
    ap₂ ◌⊕◌ p (ap (λ (n : ℕ). n * 2 ^ (8 * k) % 2 ^ w) q ∙ shl_exact 8 (8 * k) w b l) ∙ xor_comm (word_of k s) (get_or s k 0 * 2 ^ (8 * k))
    ∙ xor_shifted (get_or s k 0) (8 * k) (word_of k s) (word_of-lt k s h) ∙ add_comm (get_or s k 0 * 2 ^ (8 * k)) (word_of k s)
    ∙ sym (word_of_plus k 1 s ∙ ap (λ (n : ℕ). word_of k s + n * 2 ^ (8 * k)) f)

-- ---- the bytes of a number

pub length-bytes_of : (k v : ℕ) → length (bytes_of k v) ≡ k
unfolding bytes_of
length-bytes_of zero v = refl
length-bytes_of (suc k) v = ap suc (length-bytes_of k (v / 256))

pub get_or-bytes_of : (k v i : ℕ) → i < k → get_or (bytes_of k v) i 0 ≡ v / 2 ^ (8 * i) % 256
unfolding bytes_of
get_or-bytes_of zero v i h = absurd (not-suc-le-zero h)
get_or-bytes_of (suc k) v zero h = sym (ap (λ (n : ℕ). n % 256) (div-one v))
get_or-bytes_of (suc k) v (suc i) h =
    let e : 8 + 8 * i ≡ 8 * suc i = omega arith in
    get_or-bytes_of k (v / 256) i (le_of_suc-le-suc h) ∙ ap (λ (n : ℕ). n % 256) (shr-shr v 8 (8 * i) ∙ ap (λ (n : ℕ). v / 2 ^ n) e)

pub bytes_of_plus : (j k v : ℕ) → bytes_of (j + k) v ≡ bytes_of j v ++ bytes_of k (v / 2 ^ (8 * j))
unfolding bytes_of
bytes_of_plus zero k v = simp (zero-add, div-one)
bytes_of_plus (suc j) k v =
    let e : 8 + 8 * j ≡ 8 * suc j = omega arith in
    rw suc-add (ap (λ l. v % 256 ∷ l) (bytes_of_plus j k (v / 256) ∙ ap (λ (n : ℕ). bytes_of j (v / 256) ++ bytes_of k n) (shr-shr v 8 (8 * j) ∙ ap (λ (n : ℕ). v / 2 ^ n) e)))

-- what stands above does not matter
pub bytes_of_low : (k h l : ℕ) → bytes_of k (h * 2 ^ (8 * k) + l) ≡ bytes_of k l
unfolding bytes_of
bytes_of_low zero h l = refl
bytes_of_low (suc k) h l =
    let e : h * 2 ^ (8 * suc k) ≡ h * 2 ^ (8 * k) * 256 = ap (λ (n : ℕ). h * n) (pow-byte k) ∙ sym (mul_assoc h (2 ^ (8 * k)) 256) in
    let b : (h * 2 ^ (8 * suc k) + l) % 256 ≡ l % 256 = omega arith in
    let q : (h * 2 ^ (8 * suc k) + l) / 256 ≡ h * 2 ^ (8 * k) + l / 256 = omega arith in
    ap₂ (λ (x : ℕ) (r : List ℕ). x ∷ r) b (ap (bytes_of k) q ∙ bytes_of_low k h (l / 256))

-- a loop that stores byte after byte from `at`: one turn, and the length
pub put_turn : (k v : ℕ) (old : List ℕ) (at i : ℕ) → i < k → at + k ≤ length old → {new : List ℕ} {x : ℕ}
    → new ≡ paste old at (bytes_of k v) i → x ≡ v / 2 ^ (8 * i) % 256 → set new (at + i) x ≡ paste old at (bytes_of k v) (i + 1)
put_turn k v old at i h l p q =
    let b : i < length (bytes_of k v) = rw length-bytes_of h in
    let a : at + i < length old = omega arith in
    rw add-one (ap₂ (λ (n : List ℕ) (x : ℕ). set n (at + i) x) p (q ∙ sym (get_or-bytes_of k v i h)) ∙ paste-suc old at (bytes_of k v) i 0 a b)

pub length_put : (k v : ℕ) (old : List ℕ) (at i : ℕ) → i ≤ k → at + k ≤ length old → length (paste old at (bytes_of k v) i) ≡ length old
length_put k v old at i h l = length-paste old at (bytes_of k v) i (omega arith) (rw length-bytes_of h)

-- ---- there and back

pub word_of-bytes : (k v : ℕ) (r : List ℕ) → word_of k (bytes_of k v ++ r) ≡ v % 2 ^ (8 * k)
unfolding word_of bytes_of
word_of-bytes zero v r = sym (mod-one v)
word_of-bytes (suc k) v r =
    rw (pow-byte k) (omega (arith, word_of-bytes k (v / 256) r, mod-mul v {m = 2 ^ (8 * k)} {c = 256} (pow_pos (8 * k)) (lit< tt)))

pub bytes_of-word : (k : ℕ) (s : List ℕ) → Bytes s → k ≤ length s → bytes_of k (word_of k s) ≡ take k s
unfolding word_of bytes_of
bytes_of-word zero s h l = refl
bytes_of-word (suc k) [] h l = absurd (not-suc-le-zero l)
bytes_of-word (suc k) (b ∷ s) h l =
    let lt : b < 256 = h 0 in
    let m : (b + word_of k s * 256) % 256 ≡ b = omega arith in
    let q : (b + word_of k s * 256) / 256 ≡ word_of k s = omega arith in
    ap₂ (λ (x : ℕ) (r : List ℕ). x ∷ r) m (ap (bytes_of k) q ∙ bytes_of-word k s (λ i. h (suc i)) (le_of_suc-le-suc l))
