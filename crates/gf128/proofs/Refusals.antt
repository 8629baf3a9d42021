-- The refusals are given exactly in their cases, 2 where both apply, and the sum in every other.
use Rattle.std.proofs.Common.{◌≡◌, refl, Bool, true, false, not, List, [], ◌↔◌, ◌≢◌, ℕ, ◌%◌, arith, eqb, length, Ok, Err, eq-eqb, ne_eqb}
use Rattle.std.proofs.Math.Logic.Iff
use Rattle.std.proofs.Math.Logic.Dec
use Rattle.std.proofs.Math.Decide.{ℕ_discrete}
use Rattle.gf2.specs.Poly.{xsum}
use Rattle.gf2.specs.Residue.{dot}
use Rattle.words.specs.declared.Limbs.{Limbs}
use Rattle.words.specs.Limbs.{limbs}
use Rattle.answers.specs.Answer.{number, refuse_if, Exactly}
use Rattle.answers.specs.declared.Refusal.TheVariants.{LengthsDiffer, OddLimbs}
use Rattle.answers.proofs.Refusals.{refuses, refuses_first, refuses_then, accepts_where, accepts_then, unequal, not_unequal}
use Rattle.gf128.specs.Answers.{answer}
use Rattle.gf128.specs.Refusals.{Refusals128}

dot_empty : answer [] [] ≡ Ok (limbs 0)
unfolding dot xsum
dot_empty = refl

module _ (a b : List ℕ) where
  -- not unequal is equal
  equal_then : {P : Type 0} → (((length a ≢ length b) → ⊥) × P) ↔ ((length a ≡ length b) × P)
  equal_then = (λ p. ((Dec.not-not (ℕ_discrete (length a) (length b))).0 p.0, p.1), λ p. ((λ n. n p.0), p.1))

  dot_refuses_2 : Exactly LengthsDiffer (length a ≢ length b) (answer a b)
  dot_refuses_2 =
      refuses_first (not (eqb (length a) (length b))) LengthsDiffer _ (unequal (length a) (length b)) (other (not (eqb (length a % 2) 0)) _)
    where
      other : (t : Bool) (v : Limbs) → number (refuse_if t OddLimbs (Ok v)) ≢ 2
      other true v e = omega arith
      other false v e = omega arith

  dot_refuses_5 : Exactly OddLimbs ((length a ≡ length b) × (length a % 2 ≢ 0)) (answer a b)
  dot_refuses_5 =
      Iff.trans
      (refuses_then (not (eqb (length a) (length b))) LengthsDiffer OddLimbs _ (unequal (length a) (length b)) (λ e. omega arith)
      (refuses (not (eqb (length a % 2) 0)) OddLimbs _ (unequal (length a % 2) 0)))
      equal_then

  -- the answers themselves
  pub answer_differ : (length a ≡ length b → ⊥) → answer a b ≡ Err LengthsDiffer
  answer_differ n = simp (ne_eqb (length a) (length b) n)

  pub answer_odd : length a ≡ length b → (length a % 2 ≡ 0 → ⊥) → answer a b ≡ Err OddLimbs
  answer_odd e n = simp (eq-eqb (length a) (length b) e, ne_eqb (length a % 2) 0 n)

pub refusals128 : Refusals128
refusals128 = record {
  dot_refuses_2 = dot_refuses_2;
  dot_refuses_5 = dot_refuses_5;
  dot_accepts = λ a b.
      accepts_then (not (eqb (length a) (length b))) LengthsDiffer _ (not_unequal (length a) (length b))
      (accepts_where (not (eqb (length a % 2) 0)) OddLimbs _ (not_unequal (length a % 2) 0));
  dot_empty = dot_empty;
}
