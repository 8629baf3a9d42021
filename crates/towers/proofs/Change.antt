-- THE BASIS CHANGE: the statement of specs/Theorem.antt, proved.
use mathlib.Core.Path.{◌≡◌, refl, sym, ap₂, ◌∙◌}
use mathlib.Core.Bool.{Bool}
use mathlib.Core.List.{◌∷◌}
use Prim.Native.Nat.{ℕ, zero, suc, ◌^◌, ◌<◌}
use native.Mathlib.Nat.{le_of_suc-le-suc}
use native.Mathlib.Omega.{arith}
use lib.ListN.{get_or}
use lib.Dec.{T, eqb, eqb→eq, lit<}
use Rattle.gf2.specs.Linear.{Additive, apply}
use Rattle.towers.specs.Level.{◌⊞◌, lo, hi, join}
use Rattle.towers.specs.Mul.{gen, talpha, tmul}
use Rattle.towers.specs.Basis.{bmul, Smallest, xi, out}
use Rattle.towers.specs.Theorem.{BasisChange}
use Rattle.gf2.proofs.Linear.{all, all_at, linear_ext}
use Rattle.towers.proofs.Images.{xi_smallest, smallest_unique}
use Rattle.towers.proofs.Basis.{written, out_is, out-xor, into-xor, out_lt, into_lt, into_out, out_into, out_mul, into_mul}
use Rattle.towers.proofs.Generator.{powers}

-- ---- where the generators go

gens_test : ℕ → Bool
gens_test k = eqb (apply written (gen k)) (get_or (1 ∷ xi) k 0)

gens_tested : T (all 4 gens_test)
unfolding all gens_test apply gen xi
gens_tested = tt

pub out-gen : (k : ℕ) → k < 4 → out (gen k) ≡ get_or (1 ∷ xi) k 0
unfolding gens_test
out-gen k h = out_is (gen k) ∙ eqb→eq (apply written (gen k)) (get_or (1 ∷ xi) k 0) (all_at 4 gens_test gens_tested k h)

pub out_smallest : (k : ℕ) → k < 3 → Smallest (out (gen k)) (out (gen (suc k)))
out_smallest k h = rw (out-gen k (omega arith), out-gen (suc k) (omega arith)) (xi_smallest k h)

-- ---- no other map sends them so

module _ (f : ℕ → ℕ) (keeps : Additive 8 f) (times : (a b : ℕ) → a < 2 ^ 8 → b < 2 ^ 8 → f (tmul 3 a b) ≡ bmul (f a) (f b))
    (f-one : f 1 ≡ 1) (f-smallest : (k : ℕ) → k < 3 → Smallest (f (gen k)) (f (gen (suc k)))) where
  gens : (k : ℕ) → k < 4 → f (gen k) ≡ get_or (1 ∷ xi) k 0
  unfolding gen
  gens zero h = f-one
  gens (suc k) h =
      smallest_unique (rw (gens k (omega arith)) at (f-smallest k (le_of_suc-le-suc h))) (xi_smallest k (le_of_suc-le-suc h))

  from_gen : (k : ℕ) → k < 4 → f (gen k) ≡ out (gen k)
  from_gen k h = gens k h ∙ sym (out-gen k h)

  -- where the two agree on a and b, they agree on the product
  from_mul : (a b : ℕ) {c : ℕ} → a < 2 ^ 8 → b < 2 ^ 8 → tmul 3 a b ≡ c → f a ≡ out a → f b ≡ out b → f c ≡ out c
  from_mul a b ha hb e p q = rw e at (times a b ha hb ∙ ap₂ bmul p q ∙ sym (out_mul a b ha hb))

  powers_agree : (i : ℕ) → i < 8 → f (2 ^ i) ≡ out (2 ^ i)
  unfolding gen tmul talpha lo hi join ◌⊞◌
  powers_agree zero h = from_gen 0 (lit< tt)
  powers_agree (suc zero) h = from_gen 1 (lit< tt)
  powers_agree (suc (suc zero)) h = from_gen 2 (lit< tt)
  powers_agree (suc (suc (suc zero))) h = from_mul 0x02 0x04 (lit< tt) (lit< tt) refl (from_gen 1 (lit< tt)) (from_gen 2 (lit< tt))
  powers_agree (suc (suc (suc (suc zero)))) h = from_gen 3 (lit< tt)
  powers_agree (suc (suc (suc (suc (suc zero))))) h = from_mul 0x02 0x10 (lit< tt) (lit< tt) refl (from_gen 1 (lit< tt)) (from_gen 3 (lit< tt))
  powers_agree (suc (suc (suc (suc (suc (suc zero)))))) h = from_mul 0x04 0x10 (lit< tt) (lit< tt) refl (from_gen 2 (lit< tt)) (from_gen 3 (lit< tt))
  powers_agree (suc (suc (suc (suc (suc (suc (suc zero))))))) h =
      from_mul 0x02 0x40 (lit< tt) (lit< tt) refl (from_gen 1 (lit< tt))
      (from_mul 0x04 0x10 (lit< tt) (lit< tt) refl (from_gen 2 (lit< tt)) (from_gen 3 (lit< tt)))
  powers_agree (suc (suc (suc (suc (suc (suc (suc (suc i)))))))) h = absurd (omega arith)

  pub only_out : (a : ℕ) → a < 2 ^ 8 → f a ≡ out a
  only_out = linear_ext 8 f out keeps (λ a b ha hb. out-xor a b) powers_agree

pub basis_change : BasisChange
unfolding gen
basis_change =
    record {
      one = out-gen 0 (lit< tt);
      smallest = out_smallest;
      out_lt = out_lt;
      into_lt = into_lt;
      into_out = into_out;
      out_into = out_into;
      out_sum = out-xor;
      into_sum = into-xor;
      out_mul = out_mul;
      into_mul = into_mul;
      only = only_out;
      generates = powers;
    }
