-- The words that a map's packing leaves are the map's, where it has room for them.
use Rattle.std.proofs.Common.{◌≡◌, ℕ, ◌*◌, ◌≤◌, ◌<◌, sym, ap, ◌∙◌, Bool, List, ltb, length, get_or, take, ext_get_or, get_or-take, length-take-le, arith, lt_of_lt_of_le, ltb-false, le-ltb, le-leb, lt-ltb, Ok, Err}
use Rattle.std.proofs.Math.Decide.{dec_le}
use Rattle.gf2.specs.Bits.{pick, tab}
use Rattle.gf2.proofs.Table.{length-tab, get_or-tab}
use Rattle.answers.specs.declared.Refusal.{Refusal}
use Rattle.answers.specs.declared.Refusal.TheVariants.{Short}
use Rattle.answers.proofs.Refusals.{accepts, accepted}
use Rattle.coach.specs.Rows.{words_for_rows, row_word_of, packed_answer, packed}
use Rattle.seat_lines.specs.Print.{row_words}

module _ (rows : List ℕ) where
  pub length-words : length (row_words rows) ≡ words_for_rows (length rows)
  unfolding row_words
  length-words = length-tab (words_for_rows (length rows)) (λ i. row_word_of rows (8 * i))

  word_at : (i : ℕ) → i < words_for_rows (length rows) → get_or (row_words rows) i 0 ≡ row_word_of rows (8 * i)
  unfolding row_words
  word_at i h = get_or-tab (words_for_rows (length rows)) (λ j. row_word_of rows (8 * j)) 0 i h

  module _ (old : List ℕ) where
    -- word i afterwards
    entry : ℕ → ℕ
    entry i = pick (ltb i (words_for_rows (length rows))) (row_word_of rows (8 * i)) (get_or old i 0)

    -- it refuses: the words lent were too few
    pub packing_refused : {why : Refusal} → Err why ≡ packed_answer rows old → length old < length (row_words rows)
    packing_refused {why} e = rw length-words (go (dec_le (words_for_rows (length rows)) (length old)))
      where
        go : Dec (words_for_rows (length rows) ≤ length old) → length old < words_for_rows (length rows)
        go (yes h) =
            let z = e ∙ accepts (ltb (length old) (words_for_rows (length rows))) Short (Ok (words_for_rows (length rows))) (le-ltb (length old) (words_for_rows (length rows)) h) in
            absurd (cc)
        go (no n) = omega arith

    -- it answers: how many they are
    pub packing_value : {n : ℕ} → Ok n ≡ packed_answer rows old → (n ≡ words_for_rows (length rows)) × (words_for_rows (length rows) ≤ length old)
    packing_value {n} e =
        let p = accepted (ltb (length old) (words_for_rows (length rows))) Short (Ok (words_for_rows (length rows))) (sym e) in
        let v : Ok (words_for_rows (length rows)) ≡ Ok n = p.1 in
        (cc, ltb-false (length old) (words_for_rows (length rows)) p.0)

    swept : words_for_rows (length rows) ≤ length old → packed rows old ≡ tab (length old) entry
    unfolding entry
    swept h = ap (λ (t : Bool). pick t (tab (length old) entry) old) (le-leb (words_for_rows (length rows)) (length old) h)

    entry_below : (i : ℕ) → i < words_for_rows (length rows) → entry i ≡ row_word_of rows (8 * i)
    unfolding entry
    entry_below i h = ap (λ (t : Bool). pick t (row_word_of rows (8 * i)) (get_or old i 0)) (lt-ltb i (words_for_rows (length rows)) h)

    length_swept : words_for_rows (length rows) ≤ length old → length (take (words_for_rows (length rows)) (tab (length old) entry)) ≡ words_for_rows (length rows)
    length_swept h = length-take-le (words_for_rows (length rows)) (tab (length old) entry) (rw (length-tab (length old) entry) h)

    -- and the first so many are the map's
    take_swept : words_for_rows (length rows) ≤ length old → take (words_for_rows (length rows)) (tab (length old) entry) ≡ row_words rows
    take_swept h =
        ext_get_or 0 (take (words_for_rows (length rows)) (tab (length old) entry)) (row_words rows) (length_swept h ∙ sym length-words)
        (λ i l.
        let b : i < words_for_rows (length rows) = rw (length_swept h) at l in
        get_or-take (words_for_rows (length rows)) (tab (length old) entry) i 0 b
        ∙ get_or-tab (length old) entry 0 i (lt_of_lt_of_le b h) ∙ entry_below i b ∙ sym (word_at i b))

    pub packed_value : {n : ℕ} → Ok n ≡ packed_answer rows old → take n (packed rows old) ≡ row_words rows
    packed_value {n} e =
        let p = packing_value e in
        ap (λ (k : ℕ). take k (packed rows old)) p.0
        ∙ ap (take (words_for_rows (length rows))) (swept p.1) ∙ take_swept p.1
