-- Lists of field elements as lists of bytes, and back.
use Rattle.std.specs.Prelude.{List, map, ℕ}
use Rattle.rijndael.specs.Element.{element}
use Rattle.rijndael.specs.declared.Rijndael8b.{Rijndael8b}

-- the bytes of elements
abbrev pub bytes : List Rijndael8b → List ℕ
bytes = map (λ e. e.0)

-- the elements of bytes
abbrev pub elements : List ℕ → List Rijndael8b
elements = map element
