-- The refusals are given exactly in their cases, and the values in every other.
use Rattle.std.proofs.Common.{◌≡◌, refl, not, eqb, length, [], Ok, ne_eqb}
use borrow.Author.Tests.{eqb-false}
use Rattle.gf2.specs.Poly.{xsum}
use Rattle.gf2.specs.Residue.{dot}
use Rattle.fields.proofs.Field64.{field64}
use Rattle.answers.specs.declared.Refusal.TheVariants.{NoInverse, LengthsDiffer}
use Rattle.answers.proofs.Refusals.{refuses, accepts_where, unequal, not_unequal}
use Rattle.answers.proofs.Quotient.{quotients}
use Rattle.gf64.specs.Answers.{dot_of}
use Rattle.gf64.specs.Refusals.{Refusals64}

dot_empty : dot_of [] [] ≡ Ok 0
unfolding dot xsum
dot_empty = refl

pub refusals64 : Refusals64
refusals64 = record {
  quotients = quotients field64;
  inverse_accepts = λ a. accepts_where (eqb a 0) NoInverse _ (eqb-false a 0, ne_eqb a 0);
  quotient_accepts = λ a b. accepts_where (eqb b 0) NoInverse _ (eqb-false b 0, ne_eqb b 0);
  dot_refuses = λ a b. refuses (not (eqb (length a) (length b))) LengthsDiffer _ (unequal (length a) (length b));
  dot_accepts = λ a b. accepts_where (not (eqb (length a) (length b))) LengthsDiffer _ (not_unequal (length a) (length b));
  dot_empty = dot_empty;
}
