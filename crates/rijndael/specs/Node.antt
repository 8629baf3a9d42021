-- What asking for an interpolation node answers.
use Rattle.std.specs.Prelude.{ℕ, leb, Ok}
use Rattle.answers.specs.Answer.{Answer, refuse_if}
use Rattle.answers.specs.declared.Refusal.TheVariants.{BadIndex}
use Rattle.rijndael.specs.Element.{element}
use Rattle.rijndael.specs.declared.Rijndael8b.{Rijndael8b}

-- node i is the byte i; refusal 3 from 256 up
abbrev pub node_of : ℕ → Answer Rijndael8b
node_of i = refuse_if (leb 256 i) BadIndex (Ok (element i))
