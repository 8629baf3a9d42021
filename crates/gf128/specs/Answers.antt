-- The sum of the products of two lists of 128-bit elements, each element two limbs of its list.
use Rattle.std.specs.Prelude.{List, ℕ, ◌+◌, ◌*◌, ◌/◌, ◌%◌, ◌^◌, not, eqb, length, get_or, Ok}
use Rattle.gf2.specs.Residue.{dot}
use Rattle.words.specs.declared.Limbs.{Limbs}
use Rattle.words.specs.Limbs.{limbs}
use Rattle.answers.specs.Answer.{Answer, refuse_if}
use Rattle.answers.specs.declared.Refusal.TheVariants.{LengthsDiffer, OddLimbs}

-- element i of a list of limbs: limb 2 i, and limb 2 i + 1 above it
abbrev pub element : List ℕ → ℕ → ℕ
element s i = get_or s (2 * i + 1) 0 * 2 ^ 64 + get_or s (2 * i) 0

-- refusal 2 where the lengths differ, or else 5 where a limb has no partner
abbrev pub answer : List ℕ → List ℕ → Answer Limbs
answer a b =
    refuse_if (not (eqb (length a) (length b))) LengthsDiffer
    (refuse_if (not (eqb (length a % 2) 0)) OddLimbs (Ok (limbs (dot 128 0x87 (length a / 2) (element a) (element b)))))
