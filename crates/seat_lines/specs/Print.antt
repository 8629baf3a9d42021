-- The words of a coach's map, whose fingerprint is the map's.
use Rattle.std.specs.Prelude.{List, ℕ, ◌*◌, length}
use Rattle.gf2.specs.Bits.{tab}
use Rattle.coach.specs.Rows.{words_for_rows, row_word_of}

-- the words of a map: word i has the rows 8 i to 8 i + 7, the first lowest; rows past the end are zeros
unfoldable pub row_words : List ℕ → List ℕ
row_words rows = tab (words_for_rows (length rows)) (λ i. row_word_of rows (8 * i))
