-- The fingerprint of a list of 64-bit words at a point, as document 01 gives it.
use Rattle.std.specs.Prelude.{List, ℕ, ltb, length, fold, Ok}
use Rattle.gf2.specs.Poly.{◌⊕◌}
use Rattle.gf2.specs.Residue.{mul}
use Rattle.answers.specs.Answer.{Answer, refuse_if}
use Rattle.answers.specs.declared.Refusal.TheVariants.{TooManyWords}

-- one word more: it is XORed in, and the sum multiplied by the point
unfoldable pub step : ℕ → ℕ → ℕ → ℕ
step point sum word = mul 64 0x1b (sum ⊕ word) point

-- the words in order, from 0
unfoldable pub print_of : List ℕ → ℕ → ℕ
print_of words point = fold (step point) 0 words

-- as many words have a fingerprint
unfoldable pub limit : ℕ
limit = 4096

-- refusal 6 where there are more
abbrev pub answer : List ℕ → ℕ → Answer ℕ
answer words point = refuse_if (ltb limit (length words)) TooManyWords (Ok (print_of words point))
