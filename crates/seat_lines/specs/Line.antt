-- A line of the picture: the row's number, its seats before and after, in ASCII.
use Rattle.std.specs.Prelude.{List, [], ◌∷◌, ◌++◌, ℕ, ◌+◌, ◌/◌, ◌%◌, ltb, take, drop}
use Rattle.gf2.specs.Bits.{pick}
use Rattle.coach.specs.Rows.{drawn}

-- the digit of a number at the place of a power of ten, or a blank before the first digit
abbrev pub place_of : ℕ → ℕ → ℕ
place_of n unit = pick (ltb n unit) 32 (48 + n / unit % 10)

-- a number in five places; its last digit is always there
abbrev pub number_of : ℕ → List ℕ
number_of n = place_of n 10000 ∷ place_of n 1000 ∷ place_of n 100 ∷ place_of n 10 ∷ (48 + n % 10) ∷ []

-- the seats of a row, and the aisle in the middle
abbrev pub seats_of : ℕ → List ℕ
seats_of row = take 4 (drawn row) ++ 32 ∷ drop 4 (drawn row)

-- the number, two blanks, the seats before, three blanks, the seats after, and the line's end
abbrev pub line_of : ℕ → ℕ → ℕ → List ℕ
line_of n before after = number_of n ++ (32 ∷ 32 ∷ []) ++ seats_of before ++ (32 ∷ 32 ∷ 32 ∷ []) ++ seats_of after ++ (10 ∷ [])
