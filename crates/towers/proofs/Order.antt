-- The powers of an element of a field of residues are distinct below its order, by a computed test: none of the first ones is 1.
use mathlib.Core.Path.{◌≡◌, sym, ap, ◌∙◌}
use mathlib.Core.Bool.{Bool, true, not, ◌&&◌}
use mathlib.Core.Logic.{◌≢◌, ◌⊎◌, inl, inr}
use Prim.Native.Nat.{ℕ, zero, suc, ◌+◌, ◌-◌, ◌^◌, ◌<◌}
use native.Mathlib.Nat.{zero-add, suc-add, add-suc, le_of_suc-le-suc, not-suc-le-zero}
use native.Mathlib.Omega.{arith}
use lib.Dec.{T, T_not, eqb, eqb_refl}
use Rattle.gf2.specs.Residue.{mul, pow, inv}
use Rattle.gf2.specs.Field.{Field}
use Rattle.gf2.proofs.Linear.{and_l, and_r}
use Rattle.gf2.proofs.Ring.{mul-one_r}
use Rattle.gf2.proofs.Power.{pow_below, pow_plus}
use Rattle.gf2.proofs.Field.{one-lt, mul_cancel}

-- x, g · x, .., m values in all, are not 1
unfoldable pub fresh : ℕ → ℕ → ℕ → ℕ → ℕ → Bool
fresh n t g zero x = true
fresh n t g (suc m) x = not (eqb x 1) && fresh n t g m (mul n t g x)

fresh_at : (n t g m s : ℕ) → T (fresh n t g m (pow n t g s)) → (i : ℕ) → i < m → pow n t g (i + s) ≢ 1
unfolding fresh pow
fresh_at n t g zero s ok i h e = absurd (not-suc-le-zero h)
fresh_at n t g (suc m) s ok zero h e =
    T_not (eqb (pow n t g s) 1) (and_l (not (eqb (pow n t g s) 1)) _ ok) (rw (sym (ap (pow n t g) (zero-add s)) ∙ e) (eqb_refl 1))
fresh_at n t g (suc m) s ok (suc i) h e =
    fresh_at n t g m (suc s) (and_r (not (eqb (pow n t g s) 1)) _ ok) i (le_of_suc-le-suc h) (ap (pow n t g) (add-suc i s ∙ sym (suc-add i s)) ∙ e)

module _ {n t : ℕ} (F : Field n t) (g : ℕ) (hg : g < 2 ^ n) (ne : g ≢ 0) where
  below : (i : ℕ) → pow n t g i < 2 ^ n
  below = pow_below n t F.tail (one-lt F) g

  pub pow_ne_zero : (i : ℕ) → pow n t g i ≢ 0
  unfolding pow
  pow_ne_zero zero e = omega arith
  pow_ne_zero (suc i) e = pick (pow_ne_zero i) (F.no_divisors g (pow n t g i) hg (below i) e)
    where
      pick : pow n t g i ≢ 0 → (g ≡ 0) ⊎ (pow n t g i ≡ 0) → ⊥
      pick f (inl z) = ne z
      pick f (inr z) = f z

  -- g^i = g^(i + d) gives g^d = 1
  shorter : (i d : ℕ) → pow n t g i ≡ pow n t g (i + d) → pow n t g d ≡ 1
  shorter i d e =
      let p = pow n t g i in
      let u = mul_cancel F p in
      sym (u (pow n t g d) (below i) (below d) (pow_ne_zero i))
      ∙ ap (mul n t (inv n t p)) (sym (pow_plus n t F.tail (one-lt F) g i d) ∙ sym e ∙ sym (mul-one_r n t p (below i)))
      ∙ u 1 (below i) (one-lt F) (pow_ne_zero i)

  pub distinct : (m : ℕ) → T (fresh n t g m (pow n t g 1)) → (i j : ℕ) → i < j → j < suc m → pow n t g i ≢ pow n t g j
  distinct m fr i j h l e =
      fresh_at n t g m 1 fr (j - suc i) (omega arith) (shorter i (j - suc i + 1) (e ∙ ap (pow n t g) (omega arith)))
