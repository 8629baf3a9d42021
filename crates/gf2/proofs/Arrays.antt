-- Arrays made by calls of a closure that each call leaves as it was: entry i is the closure's answer to i (`from_fn`), or to entry i of the
-- array that it goes over (`map`).
use mathlib.Core.Path.{◌≡◌, sym, ap, subst, ◌∙◌}
use mathlib.Core.List.{List}
use Prim.Native.Nat.{ℕ, zero, suc, ◌+◌, ◌<◌, ◌≤◌}
use native.Mathlib.Decide.{ℕ_discrete}
use native.Mathlib.Omega.{arith}
use lib.ListN.{get_or}
use denote.Param.Members.{Mut, Called}
use Rattle.std.specs.Array.{IsFromFnResult, IsFromFnResultFrom, IsMapOf, MapsFrom}
use Rattle.gf2.specs.Bits.{tab}
use Rattle.gf2.proofs.Table.{tab-get_or, tab_below}

module _ {F A : Type 0} (g : Mut F (ℕ × Unit {0}) A) (f : F) (n : ℕ) (h : ℕ → A) (turn : (i : ℕ) (y : A) (q : F) → i < n → Called g f (i, tt) y q → (y ≡ h i) × (q ≡ f)) where
  made_entry : (ys : List A) (d : A) (i k : ℕ) → i + k ≡ n → IsFromFnResultFrom g f ys i k → (j : ℕ) → i ≤ j → j < n → get_or ys j d ≡ h j
  made_entry ys d i zero o p j u v = absurd (omega arith)
  made_entry ys d i (suc k) o (q, y, e, c, p) j u v =
      let t : (y ≡ h i) × (q ≡ f) = turn i y q (omega arith) c in
      let rest : IsFromFnResultFrom g f ys (i + 1) k = subst (λ (q : F). IsFromFnResultFrom g q ys (i + 1) k) t.1 p in
      elim (ℕ_discrete j i) [ yes r ↦ rw r (e.1 d ∙ t.0) | no ne ↦ made_entry ys d (i + 1) k (omega arith) rest j (omega arith) v ]

  pub made_table : {ys : List A} → IsFromFnResult g f ys n → ys ≡ tab n h
  made_table {ys} p =
      sym (tab-get_or n ys (h 0) p.long) ∙ tab_below n (λ i l. made_entry ys (h 0) 0 n (omega arith) p.each i (omega arith) l)

module _ {F A B : Type 0} (g : Mut F (A × Unit {0}) B) (f : F) (h : A → B) (turn : (x : A) (y : B) (q : F) → Called g f (x, tt) y q → (y ≡ h x) × (q ≡ f)) where
  mapped_entry : (xs : List A) (ys : List B) (a : A) (d : B) (n k i : ℕ) → i + k ≡ n → MapsFrom g f xs ys i k → (j : ℕ) → i ≤ j → j < n → get_or ys j d ≡ h (get_or xs j a)
  mapped_entry xs ys a d n zero i e r j l u = absurd (omega arith)
  mapped_entry xs ys a d n (suc k) i e (q, x, y, from, at, call, rest) j l u =
      let s = turn x y q call in
      let later = mapped_entry xs ys a d n k (i + 1) (omega arith) (subst (λ (p : F). MapsFrom g p xs ys (i + 1) k) s.1 rest) j in
      elim (ℕ_discrete j i) [ yes r ↦ rw r (at.1 d ∙ s.0 ∙ ap h (sym (from.1 a))) | no ne ↦ later (omega arith) u ]

  pub mapped_table : (a : A) (n : ℕ) {xs : List A} {ys : List B} → IsMapOf g f xs ys n → ys ≡ tab n (λ i. h (get_or xs i a))
  mapped_table a n {xs} {ys} p =
      sym (tab-get_or n ys (h a) p.long) ∙ tab_below n (λ j u. mapped_entry xs ys a (h a) n n 0 (omega arith) p.each j (omega arith) u)
