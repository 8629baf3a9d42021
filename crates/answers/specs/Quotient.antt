-- The refusing inverse and the division, at any modulus.
use Rattle.std.specs.Prelude.{◌≡◌, ◌≢◌, ℕ, ◌^◌, ◌<◌, eqb, Ok}
use Rattle.gf2.specs.Residue.{mul, inv}
use Rattle.answers.specs.Answer.{Answer, Exactly, refuse_if}
use Rattle.answers.specs.declared.Refusal.TheVariants.{NoInverse}

module _ (n t : ℕ) where
  -- refusal 1 for zero, and else the inverse
  abbrev pub inverse_of : ℕ → Answer ℕ
  inverse_of a = refuse_if (eqb a 0) NoInverse (Ok (inv n t a))

  -- a divided by b: refusal 1 where b is zero, and else a times the inverse of b
  abbrev pub quotient_of : ℕ → ℕ → Answer ℕ
  quotient_of a b = refuse_if (eqb b 0) NoInverse (Ok (mul n t a (inv n t b)))

  -- no element times a is one
  abbrev pub NoInverseOf : ℕ → Type 0
  NoInverseOf a = (x : ℕ) → x < 2 ^ n → mul n t x a ≢ 1

  -- what the two answer in a field: refusal 1 exactly where there is no inverse, that is for zero; and else the one element
  -- that gives one, or the dividend
  pub record Quotients : Type 0 where
    pub inverse_refuses : (a : ℕ) → a < 2 ^ n → Exactly NoInverse (NoInverseOf a) (inverse_of a)
    pub inverse_refuses_zero : (a : ℕ) → Exactly NoInverse (a ≡ 0) (inverse_of a)
    pub inverse_times : (a x : ℕ) → a < 2 ^ n → inverse_of a ≡ Ok x → mul n t a x ≡ 1
    pub only_inverse : (a x : ℕ) → a < 2 ^ n → x < 2 ^ n → mul n t a x ≡ 1 → inverse_of a ≡ Ok x
    pub quotient_refuses : (a b : ℕ) → b < 2 ^ n → Exactly NoInverse (NoInverseOf b) (quotient_of a b)
    pub quotient_refuses_zero : (a b : ℕ) → Exactly NoInverse (b ≡ 0) (quotient_of a b)
    pub quotient_times : (a b x : ℕ) → a < 2 ^ n → b < 2 ^ n → quotient_of a b ≡ Ok x → mul n t x b ≡ a
    pub only_quotient : (a b x : ℕ) → b < 2 ^ n → b ≢ 0 → x < 2 ^ n → mul n t x b ≡ a → quotient_of a b ≡ Ok x
