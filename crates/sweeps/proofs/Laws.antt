-- Refusal 2 is given exactly where the lengths differ; and empty lists are swept, with nothing to change.
use Rattle.std.proofs.Common.{◌≡◌, refl, List, [], ℕ, ◌≢◌, eqb, not, length, Ok}
use Rattle.gf2.specs.Bits.{tab}
use Rattle.answers.specs.Answer.{Exactly, Accepts}
use Rattle.answers.specs.declared.Refusal.TheVariants.{LengthsDiffer}
use Rattle.answers.proofs.Refusals.{refuses, accepts_where, unequal, not_unequal}
use Rattle.sweeps.specs.Products.{answer, products}

pub mul_slice_refuses : (d s : List ℕ) → Exactly LengthsDiffer (length d ≢ length s) (answer d s)
mul_slice_refuses d s = refuses (not (eqb (length d) (length s))) LengthsDiffer tt (unequal (length d) (length s))

pub mul_slice_accepts : (d s : List ℕ) → Accepts (length d ≡ length s) tt (answer d s)
mul_slice_accepts d s = accepts_where (not (eqb (length d) (length s))) LengthsDiffer tt (not_unequal (length d) (length s))

pub mul_slice_empty : (answer [] [] ≡ Ok tt) × (products [] [] ≡ [])
unfolding tab
mul_slice_empty = (refl, refl)
