-- The words of a map's rows, and what `pack_rows` leaves.
use Rattle.std.proofs.Common.{◌≡◌, ◌∙◌, refl, sym, ap, ap₂, arith, ℕ, zero, suc, ◌+◌, ◌*◌, ◌%◌, ◌^◌, ◌≤◌, ◌<◌, List, length, get_or, take, drop, add-one, add-zero, zero-add, get_or-take, get_or-drop, shl_exact, slice_index, Bool, ltb, ◌++◌, min, lt-ltb, le-ltb, le-leb, Ok, Err}
use Rattle.std.proofs.lemmas.Bool.{lt-leb}
use Rattle.std.proofs.lemmas.Grind.{common_steps}
use Rattle.std.proofs.Math.Nat.{le_refl, pow-suc}
use Rattle.std.specs.Int.{sum_through, byte_worth, from_le_bytes, w64}
use Rattle.gf2.specs.Poly.{xsum, ◌⊕◌}
use Rattle.gf2.proofs.Sum.{xsum_last, xsum_below}
use Rattle.gf2.specs.Bits.{pick}
use Rattle.gf2.proofs.Sweep.{Swept, swept_part}
use Rattle.answers.specs.Lent.{word_of, Bytes}
use Rattle.answers.specs.declared.Refusal.TheVariants.{Short}
use Rattle.answers.proofs.Lent.{word_of_none, word_of_turn, word_of-one, word_of_plus, pow-byte}
use Rattle.coach.specs.Rows.{words_for_rows, row_word_of, packed_answer, packed}

-- ---- one word

-- row k from `at` on, in its place
abbrev pub row : List ℕ → ℕ → ℕ → ℕ
row rows at k = get_or rows (at + k) 0 * 2 ^ (8 * k)

-- the first k rows in their places are the number of the first k bytes
rows_word_of : (k : ℕ) (rows : List ℕ) → Bytes rows → xsum k (row rows 0) ≡ word_of k rows
unfolding xsum
rows_word_of zero rows h = word_of_none rows
rows_word_of (suc k) rows h =
    let b : get_or rows k 0 < 2 ^ 8 = h k in
    let place : row rows 0 k ≡ get_or rows k 0 * 2 ^ (8 * k) % 2 ^ (8 + 8 * k) =
    ap (λ (j : ℕ). get_or rows j 0 * 2 ^ (8 * k)) (zero-add k) ∙ sym (shl_exact 8 (8 * k) (8 + 8 * k) b (le_refl (8 + 8 * k))) in
    xsum_last k (row rows 0) ∙ ap (λ (x : ℕ). xsum k (row rows 0) ⊕ x) place
    ∙ word_of_turn (8 + 8 * k) k rows h (le_refl (8 + 8 * k)) (rows_word_of k rows h) refl ∙ ap (λ (n : ℕ). word_of n rows) (add-one k)

-- std counts in bytes
pow-256 : (k : ℕ) → 256 ^ k ≡ 2 ^ (8 * k)
pow-256 zero = refl
pow-256 (suc k) = pow-suc 256 k ∙ ap (λ (n : ℕ). n * 256) (pow-256 k) ∙ sym (pow-byte k)

-- the sum that std makes of the first k + 1 bytes is their number too
bytes_worth : (k : ℕ) (s : List ℕ) → sum_through (λ i. byte_worth i (slice_index s i)) k ≡ word_of (suc k) s
bytes_worth zero s = sym (word_of-one s)
bytes_worth (suc k) s =
    let top : word_of 1 (drop (suc k) s) * 2 ^ (8 * suc k) ≡ get_or s (suc k) 0 * 256 ^ suc k =
    ap₂ (λ (x y : ℕ). x * y) (word_of-one (drop (suc k) s) ∙ get_or-drop (suc k) s 0 0 ∙ ap (λ (n : ℕ). get_or s n 0) (add-zero (suc k))) (sym (pow-256 (suc k))) in
    ap₂ (λ (x y : ℕ). x + y) (bytes_worth k s) (sym top) ∙ sym (word_of_plus (suc k) 1 s) ∙ ap (λ (n : ℕ). word_of n s) (add-one (suc k))

-- so that std's number of eight rows is their word
pub row_word_whole : (rows : List ℕ) → Bytes rows → from_le_bytes w64 rows ≡ row_word_of rows 0
unfolding row_word_of
row_word_whole rows h = bytes_worth 7 rows ∙ sym (rows_word_of 8 rows h)

-- the rows of a word, taken from the map
pub row_word_taken : (rows : List ℕ) (at : ℕ) → row_word_of (take 8 (drop at rows)) 0 ≡ row_word_of rows at
unfolding row_word_of
row_word_taken rows at = xsum_below 8 (λ k h.
    ap (λ (x : ℕ). x * 2 ^ (8 * k)) (ap (λ (j : ℕ). get_or (take 8 (drop at rows)) j 0) (zero-add k) ∙ get_or-take 8 (drop at rows) k 0 h ∙ get_or-drop at rows k 0))

-- ---- a chunk of the map

-- the first n that are left, and what is left then
pub cut : (n : ℕ) (xs ys zs : List ℕ) → zs ≡ xs ++ ys → length xs ≡ min n (length zs) → (xs ≡ take n zs) × (ys ≡ drop n zs)
cut n xs ys zs e l = (grind (arith, common_steps), grind (arith, common_steps))

module _ (rows words : List ℕ) where
  pub packed_short : length words < words_for_rows (length rows) → (packed_answer rows words ≡ Err Short) × (packed rows words ≡ words)
  packed_short h = simp (lt-ltb (length words) (words_for_rows (length rows)) h, lt-leb (words_for_rows (length rows)) (length words) h) (refl, refl)

  -- word i afterwards
  entry : ℕ → ℕ
  entry i = pick (ltb i (words_for_rows (length rows))) (row_word_of rows (8 * i)) (get_or words i 0)

  pub packed_done : {new : List ℕ} {n : ℕ} → n ≡ words_for_rows (length rows) → n ≤ length words → Swept (λ i. row_word_of rows (8 * i)) 0 words new n
      → (Ok n ≡ packed_answer rows words) × (new ≡ packed rows words)
  unfolding entry
  packed_done {new} {n} e h s =
      simp (le-ltb (length words) (words_for_rows (length rows)) (rw e at h), le-leb (words_for_rows (length rows)) (length words) (rw e at h)) (
        ap Ok e,
        swept_part entry s
            (λ k l. sym (ap (λ (t : Bool). pick t (row_word_of rows (8 * k)) (get_or words k 0)) (lt-ltb k (words_for_rows (length rows)) (rw e at l))))
            (λ k l. sym (ap (λ (t : Bool). pick t (row_word_of rows (8 * k)) (get_or words k 0)) (le-ltb k (words_for_rows (length rows)) (rw e at l)))),
      )
