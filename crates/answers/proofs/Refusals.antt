-- A refusal by a test is given exactly where the test holds, and where it fails the call accepts; of two, the first comes first.
use Rattle.std.proofs.Common.{◌≡◌, refl, Bool, true, false, not, eqb, leb, ltb, sym, ap, true≢false, ◌↔◌, ◌≢◌, ℕ, ◌≤◌, ◌<◌, eqb-true, eq-eqb, ne_eqb, leb-true, leb-false, le-leb, ltb-true, ltb-false, lt-ltb, le-ltb, Ok, Err}
use Rattle.std.proofs.lemmas.Bool.{false≢true}
use borrow.Author.Tests.{eqb-false, lt-leb, not-true, not-false}
use Rattle.answers.specs.Answer.{Answer, number, refusal, refuse_if, mapped, Exactly, Accepts}
use Rattle.answers.specs.declared.Refusal.{Refusal}
use Rattle.answers.proofs.Answer.{refusal_not_0}

-- ---- what the tests of code decide

pub equal : (a b : ℕ) → (eqb a b ≡ true) ↔ (a ≡ b)
equal a b = (eqb-true a b, eq-eqb a b)

pub unequal : (a b : ℕ) → (not (eqb a b) ≡ true) ↔ (a ≢ b)
unequal a b = (λ e. eqb-false a b (not-true (eqb a b) e), λ ne. ap not (ne_eqb a b ne))

pub below : (a b : ℕ) → (ltb a b ≡ true) ↔ (a < b)
below a b = (ltb-true a b, lt-ltb a b)

pub at_most : (a b : ℕ) → (leb a b ≡ true) ↔ (a ≤ b)
at_most a b = (leb-true a b, le-leb a b)

-- and where they fail
pub not_unequal : (a b : ℕ) → (not (eqb a b) ≡ false) ↔ (a ≡ b)
not_unequal a b = (λ e. eqb-true a b (not-false (eqb a b) e), λ e. ap not (eq-eqb a b e))

pub not_below : (a b : ℕ) → (ltb a b ≡ false) ↔ (b ≤ a)
not_below a b = (ltb-false a b, le-ltb a b)

pub not_at_most : (a b : ℕ) → (leb a b ≡ false) ↔ (b < a)
not_at_most a b = (leb-false a b, lt-leb a b)

-- ---- refusals

module _ {A : Type 0} {P : Type 0} where
  -- the only refusal, or the first of several: what follows does not give it
  pub refuses_first : (t : Bool) (why : Refusal) (a : Answer A) → (t ≡ true) ↔ P → number a ≢ refusal why → Exactly why P (refuse_if t why a)
  refuses_first true why a d other = (λ e. d.0 refl, λ p. refl)
  refuses_first false why a d other = (λ e. absurd (other e), λ p. absurd (false≢true (d.1 p)))

  pub refuses : (t : Bool) (why : Refusal) (v : A) → (t ≡ true) ↔ P → Exactly why P (refuse_if t why (Ok v))
  refuses t why v d = refuses_first t why (Ok v) d (λ e. refusal_not_0 why (sym e))

  -- a later one: where the first test fails
  pub refuses_then : {Q : Type 0} (t : Bool) (why why' : Refusal) (a : Answer A) → (t ≡ true) ↔ P → refusal why ≢ refusal why' → Exactly why' Q a
      → Exactly why' ((P → ⊥) × Q) (refuse_if t why a)
  refuses_then true why why' a d apart q = (λ e. absurd (apart e), λ p. absurd (p.0 (d.0 refl)))
  refuses_then false why why' a d apart q = (λ e. (λ p. false≢true (d.1 p), q.0 e), λ p. q.1 p.1)

-- ---- acceptance

module _ {A : Type 0} {P : Type 0} where
  -- where the only test fails, or the last of several
  pub accepts_where : (t : Bool) (why : Refusal) (v : A) → (t ≡ false) ↔ P → Accepts P v (refuse_if t why (Ok v))
  accepts_where true why v d = ((λ e. absurd (refusal_not_0 why e), λ p. absurd (true≢false (d.1 p))), λ p. absurd (true≢false (d.1 p)))
  accepts_where false why v d = ((λ e. d.0 refl, λ p. refl), λ p. refl)

  -- and where one before it fails too
  pub accepts_then : {Q : Type 0} (t : Bool) (why : Refusal) (a : Answer A) {v : A} → (t ≡ false) ↔ P → Accepts Q v a
      → Accepts (P × Q) v (refuse_if t why a)
  accepts_then true why a d q =
      ((λ e. absurd (refusal_not_0 why e), λ p. absurd (true≢false (d.1 p.0))), λ p. absurd (true≢false (d.1 p.0)))
  accepts_then false why a d q = ((λ e. (d.0 refl, q.0.0 e), λ p. q.0.1 p.1), λ p. q.1 p.1)

module _ {A : Type 0} where
  -- where the test fails, what follows is answered
  pub accepts : (t : Bool) (why : Refusal) (a : Answer A) → t ≡ false → refuse_if t why a ≡ a
  accepts t why a e = ap (λ (b : Bool). refuse_if b why a) e

  -- an answer with a value comes from a test that fails
  pub accepted : (t : Bool) (why : Refusal) (a : Answer A) {v : A} → refuse_if t why a ≡ Ok v → (t ≡ false) × (a ≡ Ok v)
  accepted true why a {v} e = absurd (refusal_not_0 why (ap number e))
  accepted false why a e = (refl, e)

-- a value changed is refused where it was before
pub refuses_mapped : {A B P : Type 0} (f : A → B) (a : Answer A) (why : Refusal) → Exactly why P a → Exactly why P (mapped f a)
refuses_mapped f (Ok v) why e = e
refuses_mapped f (Err w) why e = e
