-- What a sweep of products over two lists answers, and every byte that it leaves in the first.
use Rattle.std.specs.Prelude.{List, ℕ, eqb, not, length, get_or, Ok}
use Rattle.gf2.specs.Bits.{pick, tab}
use Rattle.gf2.specs.Residue.{mul}
use Rattle.answers.specs.Answer.{Answer, refuse_if}
use Rattle.answers.specs.declared.Refusal.TheVariants.{LengthsDiffer}

-- refusal 2 where the lengths differ
abbrev pub answer : List ℕ → List ℕ → Answer (Unit {0})
answer d s = refuse_if (not (eqb (length d) (length s))) LengthsDiffer (Ok tt)

-- the products place by place, or the first list as it was where the lengths differ
abbrev pub products : List ℕ → List ℕ → List ℕ
products d s = pick (eqb (length d) (length s)) (tab (length d) (λ k. mul 8 0x1b (get_or d k 0) (get_or s k 0))) d
