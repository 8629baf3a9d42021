-- Hexadecimal texts: 1 to 16 digits read as a number, and a word written in 16 digits.
use Rattle.std.specs.Prelude.{◌≡◌, Bool, true, List, leb, ltb, length, ◌&&◌, Option, Some, None, ℕ, zero, suc, ◌+◌, ◌-◌, ◌*◌, ◌/◌, ◌%◌, ◌^◌, ◌<◌, get_or}
use Rattle.gf2.specs.Bits.{pick, tab}

-- c lies between low and high
abbrev pub between : ℕ → ℕ → ℕ → Bool
between low high c = leb low c && leb c high

-- what a digit stands for (0 to 9, a to f, A to F), and 16 for any other byte
unfoldable pub digit_of : ℕ → ℕ
digit_of c = pick (between 48 57 c) (c - 48) (pick (between 97 102 c) (c - 87) (pick (between 65 70 c) (c - 55) 16))

-- a digit read: what it stands for, and nothing where the byte is no digit
abbrev pub read_digit : ℕ → Option ℕ
read_digit c = pick (ltb (digit_of c) 16) (Some (digit_of c)) None

-- the first k bytes are digits, and the number that they stand for, the highest digit first
unfoldable pub digits : ℕ → List ℕ → Bool
digits zero s = true
digits (suc k) s = digits k s && ltb (digit_of (get_or s k 0)) 16

unfoldable pub number : ℕ → List ℕ → ℕ
number zero s = 0
number (suc k) s = number k s * 16 + digit_of (get_or s k 0)

-- a text of 1 to 16 digits, and nothing else, is a number
abbrev pub hex_of : List ℕ → Option ℕ
hex_of s = pick (between 1 16 (length s) && digits (length s) s) (Some (number (length s) s)) None

-- the digit for a number below 16, in lower case
abbrev pub glyph_of : ℕ → ℕ
glyph_of d = pick (ltb d 10) (48 + d) (87 + d)

-- a word in 16 digits, four bits each, the highest first
unfoldable pub text_of : ℕ → List ℕ
text_of n = tab 16 (λ i. glyph_of (n / 2 ^ (60 - 4 * i) % 16))

-- what was written is read again
pub record Hexadecimal : Type 0 where
  pub text_read : (n : ℕ) → n < 2 ^ 64 → hex_of (text_of n) ≡ Some n
