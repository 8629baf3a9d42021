-- LINES: what a line of a recorded list says.
use Rattle.std.specs.Prelude.{ℕ, zero, suc, ◌*◌, Bool, true, false, ◌&&◌, List, take, drop, ◌==◌, slice_index, Option, Some, None, is_some}
use Rattle.gf2.specs.Bits.{pick, tab}
use Rattle.hexadecimal.specs.Hex.{hex_of}
use Rattle.records.specs.declared.Line.{Line}
use Rattle.records.specs.declared.Shown.{Shown}

-- word k of a line: sixteen digits, with one byte between two words
unfoldable pub word_at : List ℕ → ℕ → Option ℕ
word_at s k = hex_of (take 16 (drop (17 * k) s))

-- the number, and 0 for what is none
abbrev pub value : Option ℕ → ℕ
value (Some v) = v
value None = 0

-- the first k words are numbers
unfoldable pub numbers : ℕ → List ℕ → Bool
numbers zero s = true
numbers (suc k) s = numbers k s && is_some (word_at s k)

-- the words of a line, or nothing where one of them is no number
abbrev pub line_of : List ℕ → Option Line
line_of s = pick (numbers 8 s) (Some (record { x = tab 8 (λ k. value (word_at s k)) })) None

-- a line has this answer: its last three words
abbrev pub agrees_of : Line → Shown → Bool
agrees_of l a = slice_index l.x 5 == a.number && (slice_index l.x 6 == a.low && slice_index l.x 7 == a.high)

-- a line that was read has this answer: where a word of it is no number, it has none
abbrev pub read_agrees : Option Line → Shown → Bool
read_agrees (Some l) a = agrees_of l a
read_agrees None a = false
