-- The three kinds of spelling of a byte map: what a value is, which map it means, which value is found for a map.
use Rattle.std.specs.Prelude.{List, ℕ, ◌^◌, ◌<◌}
use Rattle.gf2.specs.Linear.{apply}
use Rattle.spellings.specs.Quadword.{image, find_quadword}
use Rattle.spellings.specs.Lists.{Residues, find_images, eval, find_coefficients, dual8}

pub data Kind : Type 0 where
  Quadword Images Coefficients : Kind

-- a number, or a list of numbers
abbrev pub Value : Kind → Type 0
Value Quadword = ℕ
Value Images = List ℕ
Value Coefficients = List ℕ

-- of 64 bits, or of eight bytes
abbrev pub Valid : (k : Kind) → Value k → Type 0
Valid Quadword q = q < 2 ^ 64
Valid Images l = Residues 8 l
Valid Coefficients l = Residues 8 l

-- where a value sends a byte
abbrev pub meaning : (k : Kind) → Value k → ℕ → ℕ
meaning Quadword = image
meaning Images = apply
meaning Coefficients = eval 8 0x1b

-- the value for a map
abbrev pub find : (k : Kind) → (ℕ → ℕ) → Value k
find Quadword = find_quadword
find Images = find_images 8
find Coefficients = find_coefficients 8 0x1b dual8

-- a value turned from one kind into another
abbrev pub turn : (k l : Kind) → Value k → Value l
turn k l v = find l (meaning k v)

-- two values of a kind composed: the second is applied first
abbrev pub compose : (k : Kind) → Value k → Value k → Value k
compose k v w = find k (λ a. meaning k v (meaning k w a))
