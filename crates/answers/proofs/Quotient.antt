-- In a field the refusing inverse and the division are what `Quotients` says.
use Rattle.std.proofs.Common.{◌≡◌, ◌∙◌, refl, Bool, true, false, eqb, sym, ap, arith, ◌↔◌, ◌≢◌, ℕ, ◌^◌, ◌<◌, eq-eqb, ne_eqb, Ok, Err}
use Rattle.std.proofs.Math.Logic.Iff
use Rattle.std.proofs.Math.Decide.{ℕ_discrete}
use borrow.Author.Tests.{eqb-false}
use Rattle.gf2.specs.Residue.{mul, inv}
use Rattle.gf2.specs.Field.{Field}
use Rattle.gf2.proofs.Ring.{mul_comm, mul_assoc, mul-zero_r, mul-one_r}
use Rattle.answers.specs.Answer.{Answer, number, refuse_if, value_or}
use Rattle.answers.specs.Quotient.{inverse_of, quotient_of, NoInverseOf, Quotients}
use Rattle.answers.specs.declared.Refusal.{Refusal}
use Rattle.answers.specs.declared.Refusal.TheVariants.{NoInverse}
use Rattle.answers.proofs.Answer.{refusal_not_0}
use Rattle.answers.proofs.Refusals.{equal, refuses, accepts, accepted}

-- ---- the inverse by its test, and the quotient by the inverse's answer, as code takes them apart

module _ (n t : ℕ) where
  pub inverse_refused : (a : ℕ) → a ≡ 0 → Err NoInverse ≡ inverse_of n t a
  inverse_refused a z = ap (λ (u : Bool). refuse_if u NoInverse (Ok (inv n t a))) (sym (eq-eqb a 0 z))

  pub inverse_value : (a : ℕ) {x : ℕ} → a ≢ 0 → x ≡ inv n t a → Ok x ≡ inverse_of n t a
  inverse_value a {x} ne e = ap Ok e ∙ sym (accepts (eqb a 0) NoInverse (Ok (inv n t a)) (ne_eqb a 0 ne))

  pub quotient_refused : (a b : ℕ) {why : Refusal} → Err why ≡ inverse_of n t b → Err NoInverse ≡ quotient_of n t a b
  quotient_refused a b {why} = go (eqb b 0)
    where
      go : (u : Bool) → Err why ≡ refuse_if u NoInverse (Ok (inv n t b)) → Err NoInverse ≡ refuse_if u NoInverse (Ok (mul n t a (inv n t b)))
      go true e = refl
      go false e = absurd (refusal_not_0 why (ap number e))

  pub quotient_value : (a b : ℕ) {x : ℕ} → Ok x ≡ inverse_of n t b → Ok (mul n t a x) ≡ quotient_of n t a b
  quotient_value a b {x} = go (eqb b 0)
    where
      go : (u : Bool) → Ok x ≡ refuse_if u NoInverse (Ok (inv n t b)) → Ok (mul n t a x) ≡ refuse_if u NoInverse (Ok (mul n t a (inv n t b)))
      go true e = let z : ◌≡◌ {A = ℕ} 0 1 = ap number e in absurd (omega arith)
      go false e = ap (λ (v : Answer ℕ). Ok (mul n t a (value_or v 0))) e

  pub quotient_by : (a b : ℕ) {x r : ℕ} → Ok x ≡ inverse_of n t b → r ≡ mul n t a x → Ok r ≡ quotient_of n t a b
  quotient_by a b {x} {r} i p = ap Ok p ∙ quotient_value a b i

is_value : {x y : ℕ} → ◌≡◌ {A = Answer ℕ} (Ok x) (Ok y) → x ≡ y
is_value = ap (λ (v : Answer ℕ). value_or v 0)

-- ---- in a field

module _ {n t : ℕ} (F : Field n t) where
  -- zero, exactly where no element times it is one
  pub zero_has_none : (a : ℕ) → a < 2 ^ n → (a ≡ 0) ↔ NoInverseOf n t a
  zero_has_none a h = (there, λ none. back none (ℕ_discrete a 0))
    where
      there : a ≡ 0 → NoInverseOf n t a
      there z x hx e = let w : ◌≡◌ {A = ℕ} 0 1 = sym (mul-zero_r n t x) ∙ ap (mul n t x) (sym z) ∙ e in omega arith

      back : NoInverseOf n t a → Dec (a ≡ 0) → a ≡ 0
      back none (yes z) = z
      back none (no ne) = absurd (none (inv n t a) (F.inverse_lt a) (mul_comm n t (inv n t a) a ∙ F.inverse a h ne))

  -- a divided by b, times b, is a; and no other element times b is
  pub quotient_undone : (a b : ℕ) → a < 2 ^ n → b < 2 ^ n → b ≢ 0 → mul n t (mul n t a (inv n t b)) b ≡ a
  quotient_undone a b ha hb ne =
      mul_assoc n t F.tail a (inv n t b) b
      ∙ ap (mul n t a) (mul_comm n t (inv n t b) b ∙ F.inverse b hb ne) ∙ mul-one_r n t a ha

  pub only_quotient : (a b x : ℕ) → b < 2 ^ n → x < 2 ^ n → b ≢ 0 → mul n t x b ≡ a → x ≡ mul n t a (inv n t b)
  only_quotient a b x hb hx ne e =
      sym (mul-one_r n t x hx) ∙ ap (mul n t x) (sym (F.inverse b hb ne)) ∙ sym (mul_assoc n t F.tail x b (inv n t b))
      ∙ ap (λ (y : ℕ). mul n t y (inv n t b)) e

  not_zero : (a x : ℕ) → mul n t a x ≡ 1 → a ≢ 0
  not_zero a x e z =
      let w : ◌≡◌ {A = ℕ} 0 1 = sym (mul-zero_r n t x) ∙ mul_comm n t x 0 ∙ ap (λ (y : ℕ). mul n t y x) (sym z) ∙ e in omega arith

  pub quotients : Quotients n t
  quotients = record {
    inverse_refuses = λ a h. Iff.trans (refuses (eqb a 0) NoInverse (inv n t a) (equal a 0)) (zero_has_none a h);
    inverse_refuses_zero = λ a. refuses (eqb a 0) NoInverse (inv n t a) (equal a 0);
    inverse_times = λ a x h e.
        let p = accepted (eqb a 0) NoInverse (Ok (inv n t a)) e in
        ap (mul n t a) (sym (is_value p.1)) ∙ F.inverse a h (eqb-false a 0 p.0);
    only_inverse = λ a x ha hx e.
        accepts (eqb a 0) NoInverse (Ok (inv n t a)) (ne_eqb a 0 (not_zero a x e)) ∙ ap Ok (sym (F.only_inverse a x ha hx e));
    quotient_refuses = λ a b h. Iff.trans (refuses (eqb b 0) NoInverse (mul n t a (inv n t b)) (equal b 0)) (zero_has_none b h);
    quotient_refuses_zero = λ a b. refuses (eqb b 0) NoInverse (mul n t a (inv n t b)) (equal b 0);
    quotient_times = λ a b x ha hb e.
        let p = accepted (eqb b 0) NoInverse (Ok (mul n t a (inv n t b))) e in
        ap (λ (y : ℕ). mul n t y b) (sym (is_value p.1)) ∙ quotient_undone a b ha hb (eqb-false b 0 p.0);
    only_quotient = λ a b x hb ne hx e.
        accepts (eqb b 0) NoInverse (Ok (mul n t a (inv n t b))) (ne_eqb b 0 ne) ∙ ap Ok (sym (only_quotient a b x hb hx ne e));
  }
