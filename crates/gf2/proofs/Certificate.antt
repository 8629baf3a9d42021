-- THE FIELD THEOREM. The residues modulo x^n + t are a field if a computed test passes, whose witness is a list of n
-- numbers: the columns of a linear map that undoes a ↦ a² + a up to the constant term.
use mathlib.Core.Path.{◌≡◌, refl, sym, ap, ◌∙◌}
use mathlib.Core.Bool.{Bool, ◌&&◌}
use mathlib.Core.List.{List}
use mathlib.Core.Logic.{◌≢◌, ◌⊎◌, inl, inr}
use Prim.Native.Nat.{ℕ, pred, ◌-◌, ◌*◌, ◌/◌, ◌^◌, ◌≤◌, ◌<◌}
use native.Mathlib.Nat.{sub-add_cancel, suc-pred-eq_of_pos}
use native.Mathlib.Omega.{arith}
use native.Mathlib.Numerals.{add-two}
use lib.Pow.{pow-lt}
use lib.Bits.{xor_self}
use lib.Dec.{T, eqb, leb, ltb, eqb→eq, leb→le, ltb→lt}
use Rattle.gf2.specs.Poly.{◌⊕◌}
use Rattle.gf2.specs.Residue.{mul, sq, pow, frob, inv, root}
use Rattle.gf2.specs.Linear.{apply}
use Rattle.gf2.specs.Field.{Field}
use Rattle.gf2.proofs.Xor.{xor_half, xor_medial, bit_elim}
use Rattle.gf2.proofs.Shift.{xor_dbl}
use Rattle.gf2.proofs.Linear.{linear_ext, linear_test, all, apply-xor, apply-zero, and_l, and_r}
use Rattle.gf2.proofs.Ring.{sq_is, mul-zero_r, sq-xor, mul_comm, mul_assoc, mul-lt}
use Rattle.gf2.proofs.Power.{frob-xor, frob-lt, frob_x, pow_below, pow-frob}
use Rattle.gf2.proofs.Inverse.{inv_unique, mul-eq-zero, sq_inj}

-- a without its constant term
unfoldable pub clear : ℕ → ℕ
clear a = a / 2 * 2

-- the columns, at a² + a
unfoldable pub undo : ℕ → ℕ → List ℕ → ℕ → ℕ
undo n t cs a = apply cs (sq n t a ⊕ a)

-- x squared n times is x, and the columns undo a² + a at every power of x
unfoldable pub field_test : ℕ → ℕ → List ℕ → Bool
field_test n t cs = leb 1 n && (ltb t (2 ^ n) && (eqb (frob n t n 2) 2 && all n (λ i. eqb (undo n t cs (2 ^ i)) (clear (2 ^ i)))))

clear_xor : (a b : ℕ) → clear (a ⊕ b) ≡ clear a ⊕ clear b
unfolding clear
clear_xor a b = simp (xor_half, xor_dbl)

undo-xor : (n t : ℕ) (cs : List ℕ) (a b : ℕ) → undo n t cs (a ⊕ b) ≡ undo n t cs a ⊕ undo n t cs b
unfolding undo
undo-xor n t cs a b = simp (sq-xor, xor_medial (sq n t a) (sq n t b) a b) (apply-xor cs (sq n t a ⊕ a) (sq n t b ⊕ b))

module _ (n t : ℕ) (cs : List ℕ) (ok : T (field_test n t cs)) where
  pos : 1 ≤ n
  unfolding field_test
  pos = leb→le 1 n (and_l (leb 1 n) _ ok)

  small : t < 2 ^ n
  unfolding field_test
  small = ltb→lt t (2 ^ n) (and_l (ltb t (2 ^ n)) _ (and_r (leb 1 n) _ ok))

  fixes : frob n t n 2 ≡ 2
  unfolding field_test
  fixes = eqb→eq (frob n t n 2) 2 (and_l (eqb (frob n t n 2) 2) _ (and_r (ltb t (2 ^ n)) _ (and_r (leb 1 n) _ ok)))

  undoes : (a : ℕ) → a < 2 ^ n → undo n t cs a ≡ clear a
  unfolding field_test
  undoes =
      linear_test n (undo n t cs) clear (λ a b ha hb. undo-xor n t cs a b) (λ a b ha hb. clear_xor a b)
      (and_r (eqb (frob n t n 2) 2) _ (and_r (ltb t (2 ^ n)) _ (and_r (leb 1 n) _ ok)))

  one-lt : 1 < 2 ^ n
  one-lt = pow-lt pos

  -- a^(2^n) is a
  frob_id : (a : ℕ) → a < 2 ^ n → frob n t n a ≡ a
  frob_id = linear_ext n (frob n t n) (λ a. a) (λ a b ha hb. frob-xor n t n a b) (λ a b ha hb. refl) (frob_x n t small n fixes)

  -- an idempotent is 0 or 1
  idempotent : (a : ℕ) → a < 2 ^ n → sq n t a ≡ a → (a ≡ 0) ⊎ (a ≡ 1)
  unfolding undo clear
  idempotent a h e =
      let z : a / 2 * 2 ≡ 0 = sym (undoes a h) ∙ ap (λ (x : ℕ). apply cs (x ⊕ a)) e ∙ ap (apply cs) (xor_self a) ∙ apply-zero cs in
      bit_elim (λ (x : ℕ). (x ≡ 0) ⊎ (x ≡ 1)) (inl refl) (inr refl) (omega arith)

  -- a · (a · a^(2^n - 2)) is a^(2^n)
  cycle : (a : ℕ) → a < 2 ^ n → mul n t a (mul n t a (inv n t a)) ≡ a
  unfolding inv pow
  cycle a h = ap (pow n t a) (sym (add-two (2 ^ n - 2)) ∙ sub-add_cancel one-lt) ∙ pow-frob n t small one-lt a n h ∙ frob_id a h

  inv-lt : (a : ℕ) → inv n t a < 2 ^ n
  unfolding inv
  inv-lt a = pow_below n t small one-lt a (2 ^ n - 2)

  -- so a · a^(2^n - 2) is idempotent
  norm_idem : (a : ℕ) → a < 2 ^ n → sq n t (mul n t a (inv n t a)) ≡ mul n t a (inv n t a)
  norm_idem a h =
      sq_is n t (mul n t a (inv n t a))
      ∙ ap (λ (x : ℕ). mul n t x (mul n t a (inv n t a))) (mul_comm n t a (inv n t a))
      ∙ mul_assoc n t small (inv n t a) a (mul n t a (inv n t a)) ∙ ap (mul n t (inv n t a)) (cycle a h) ∙ mul_comm n t (inv n t a) a

  mul-inv : (a : ℕ) → a < 2 ^ n → a ≢ 0 → mul n t a (inv n t a) ≡ 1
  mul-inv a h ne = pick (idempotent (mul n t a (inv n t a)) (mul-lt n t small a (inv n t a)) (norm_idem a h))
    where
      pick : (mul n t a (inv n t a) ≡ 0) ⊎ (mul n t a (inv n t a) ≡ 1) → mul n t a (inv n t a) ≡ 1
      pick (inl e) = absurd (ne (sym (cycle a h) ∙ ap (mul n t a) e ∙ mul-zero_r n t a))
      pick (inr e) = e

  sq-root : (a : ℕ) → a < 2 ^ n → sq n t (root n t a) ≡ a
  unfolding root frob
  sq-root a h = ap (λ (k : ℕ). frob n t k a) (suc-pred-eq_of_pos pos) ∙ frob_id a h

  below : (a : ℕ) → a < 2 ^ n → root n t a < 2 ^ n
  unfolding root
  below a h = frob-lt n t small (pred n) h

  pub field : Field n t
  field = record {
    bits = pos;
    tail = small;
    inverse_lt = inv-lt;
    inverse = mul-inv;
    only_inverse = inv_unique n t small inv-lt mul-inv;
    no_divisors = mul-eq-zero n t small inv-lt mul-inv;
    root_lt = below;
    square_root = sq-root;
    only_root = λ a b ha hb e. sq_inj n t small inv-lt mul-inv b (root n t a) hb (below a ha) (e ∙ sym (sq-root a ha));
    squarings = frob_id;
  }
