-- An element by its byte.
use Rattle.std.specs.Prelude.{ℕ}
use Rattle.rijndael.specs.declared.Rijndael8b.{Rijndael8b}

abbrev pub element : ℕ → Rijndael8b
element a = record { 0 = a }
