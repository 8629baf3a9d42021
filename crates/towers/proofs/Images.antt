-- The images of the generators: each of the written ones is the smallest solution, by a computed test, and there is only one.
use mathlib.Core.Path.{◌≡◌}
use mathlib.Core.Bool.{Bool, not, ◌&&◌}
use mathlib.Core.List.{◌∷◌}
use Prim.Native.Nat.{ℕ, ◌^◌, ◌<◌}
use native.Mathlib.Decide.{dec_lt}
use native.Mathlib.Omega.{arith}
use lib.Dec.{T, T_not, eqb, eqb→eq, eqb_refl, ltb, ltb→lt}
use lib.ListN.{get_or}
use Rattle.gf2.specs.Poly.{bin_rec, bin_go, ◌⊕◌, cmul}
use Rattle.gf2.specs.Residue.{red, rem, mul}
use Rattle.towers.specs.Basis.{bmul, Smallest, xi}
use Rattle.gf2.proofs.Linear.{all, all_at, and_l, and_r}

abbrev root_test : ℕ → ℕ → Bool
root_test p x = eqb (bmul x x) (bmul p x ⊕ 1)

abbrev smallest_test : ℕ → ℕ → Bool
smallest_test p x = ltb x (2 ^ 8) && (not (eqb x 0) && (root_test p x && all x (λ y. not (root_test p y))))

smallest : (p x : ℕ) → T (smallest_test p x) → Smallest p x
smallest p x ok =
    let b = and_r (ltb x (2 ^ 8)) _ ok in
    let c = and_r (not (eqb x 0)) _ b in
    record {
      byte = ltb→lt x (2 ^ 8) (and_l (ltb x (2 ^ 8)) _ ok);
      nonzero = λ e. T_not (eqb x 0) (and_l (not (eqb x 0)) _ b) (rw e (eqb_refl 0));
      solves = eqb→eq (bmul x x) (bmul p x ⊕ 1) (and_l (root_test p x) _ c);
      first = λ y ne h e. T_not (root_test p y) (all_at x (λ y. not (root_test p y)) (and_r (root_test p x) _ c) y h) (rw e (eqb_refl (bmul p y ⊕ 1)));
    }

-- entry k of `xi` is the smallest solution over the entry before it, and entry 0 over 1
abbrev xi_test : ℕ → Bool
xi_test k = smallest_test (get_or (1 ∷ xi) k 0) (get_or xi k 0)

xi_tested : T (all 3 xi_test)
unfolding all xi mul rem red cmul bin_rec bin_go
xi_tested = tt

pub xi_smallest : (k : ℕ) → k < 3 → Smallest (get_or (1 ∷ xi) k 0) (get_or xi k 0)
xi_smallest k h = smallest (get_or (1 ∷ xi) k 0) (get_or xi k 0) (all_at 3 xi_test xi_tested k h)

-- there is one only
pub smallest_unique : {p x y : ℕ} → Smallest p x → Smallest p y → x ≡ y
smallest_unique {p} {x} {y} s t = pick (dec_lt x y) (dec_lt y x)
  where
    pick : Dec (x < y) → Dec (y < x) → x ≡ y
    pick (yes l) d = absurd (t.first x s.nonzero l s.solves)
    pick (no n) (yes l) = absurd (s.first y t.nonzero l t.solves)
    pick (no n) (no m) = omega arith
