-- The refusal is given exactly in its case, and the fingerprint in every other.
use Rattle.std.proofs.Common.{◌≡◌, refl, ltb, length, [], ℕ, Ok}
use Rattle.answers.specs.declared.Refusal.TheVariants.{TooManyWords}
use Rattle.answers.proofs.Refusals.{refuses, accepts_where, below, not_below}
use Rattle.fingerprint.specs.Print.{limit, print_of, answer}
use Rattle.fingerprint.specs.Refusals.{RefusalsPrint}

print_empty : (point : ℕ) → answer [] point ≡ Ok 0
unfolding limit print_of
print_empty point = refl

pub refusals_print : RefusalsPrint
refusals_print = record {
  print_refuses = λ words point. refuses (ltb limit (length words)) TooManyWords (print_of words point) (below limit (length words));
  print_accepts = λ words point. accepts_where (ltb limit (length words)) TooManyWords (print_of words point) (not_below limit (length words));
  print_empty = print_empty;
}
