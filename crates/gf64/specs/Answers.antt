-- The sum of the products of two lists of words, entry by entry.
use Rattle.std.specs.Prelude.{List, ℕ, not, eqb, length, get_or, Ok}
use Rattle.gf2.specs.Residue.{dot}
use Rattle.answers.specs.Answer.{Answer, refuse_if}
use Rattle.answers.specs.declared.Refusal.TheVariants.{LengthsDiffer}

-- refusal 2 where the lengths differ
abbrev pub dot_of : List ℕ → List ℕ → Answer ℕ
dot_of a b =
    refuse_if (not (eqb (length a) (length b))) LengthsDiffer (Ok (dot 64 0x1b (length a) (λ i. get_or a i 0) (λ i. get_or b i 0)))
