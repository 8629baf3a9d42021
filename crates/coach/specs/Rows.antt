-- A coach's map, one byte a row: eight rows a word, and the picture of a row.
use Rattle.std.specs.Prelude.{List, ℕ, ◌+◌, ◌*◌, ◌/◌, ◌^◌, eqb, leb, ltb, length, get_or, Ok}
use Rattle.gf2.specs.Poly.{coef, xsum}
use Rattle.gf2.specs.Bits.{pick, tab}
use Rattle.answers.specs.Answer.{Answer, refuse_if}
use Rattle.answers.specs.declared.Refusal.TheVariants.{Short}

-- how many words n rows take
abbrev pub words_for_rows : ℕ → ℕ
words_for_rows n = (n + 7) / 8

-- the word of the eight rows from row `at` on, the first row lowest; rows past the end are zeros
unfoldable pub row_word_of : List ℕ → ℕ → ℕ
row_word_of rows at = xsum 8 (λ k. get_or rows (at + k) 0 * 2 ^ (8 * k))

-- the number of words written, or refusal 4 where the words lent are too few
abbrev pub packed_answer : List ℕ → List ℕ → Answer ℕ
packed_answer rows words = refuse_if (ltb (length words) (words_for_rows (length rows))) Short (Ok (words_for_rows (length rows)))

-- the words afterwards: those of the rows, then what was there; where they are too few, all as they were
abbrev pub packed : List ℕ → List ℕ → List ℕ
packed rows words =
    pick (leb (words_for_rows (length rows)) (length words))
    (tab (length words) (λ i. pick (ltb i (words_for_rows (length rows))) (row_word_of rows (8 * i)) (get_or words i 0)))
    words

-- seat i of a row: '#' where bit i is set, '.' where it is not
abbrev pub seat_of : ℕ → ℕ → ℕ
seat_of row i = pick (eqb (coef row i) 1) 35 46

-- the picture of a row, seat 0 first
unfoldable pub drawn : ℕ → List ℕ
drawn row = tab 8 (seat_of row)
