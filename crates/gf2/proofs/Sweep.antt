-- A loop that stores one entry a turn, from the front, into a list that was there: what stands in it after i turns, at the
-- end, and where the loop ends before the list does. (`Filled` of Table.antt is the part that says nothing of the rest.)
use mathlib.Core.Path.{◌≡◌, refl, sym, ◌∙◌}
use mathlib.Core.List.{List}
use Prim.Native.Nat.{ℕ, ◌+◌, ◌≤◌, ◌<◌}
use native.Mathlib.Decide.{dec_lt}
use native.Mathlib.Omega.{arith}
use lib.ListN.{length, get_or, set}
use lib.Seq.{get_or-set_other}
use Rattle.gf2.specs.Bits.{tab}
use Rattle.gf2.proofs.Table.{Filled, filled_none, filled_turn, filled_all, tab-get_or, tab_below}

module _ {A : Type 0} where
  -- the list `new` is `old` with the entries below i set by the rule f
  pub record Swept (f : ℕ → A) (d : A) (old new : List A) (i : ℕ) : Type 0 where
    pub filled : Filled (length old) f d new i
    pub rest : (k : ℕ) → i ≤ k → get_or new k d ≡ get_or old k d

  pub swept_none : {f : ℕ → A} {d : A} {old : List A} → Swept f d old old 0
  swept_none = record { filled = filled_none refl; rest = λ k l. refl }

  pub swept_turn : {f : ℕ → A} {d : A} {old new : List A} {i : ℕ} {x : A} → i < length old → Swept f d old new i → x ≡ f i → Swept f d old (set new i x) (i + 1)
  swept_turn {d = d} {new = new} {i = i} {x = x} l s e =
      record { filled = filled_turn l s.filled e; rest = λ k h. get_or-set_other new i k x d (omega arith) ∙ s.rest k (omega arith) }

  pub swept_all : {f : ℕ → A} {d : A} {old new : List A} {i : ℕ} → Swept f d old new i → i ≡ length old → new ≡ tab (length old) f
  swept_all s e = filled_all (rw e at s.filled)

  -- a sweep of the first i entries only
  pub swept_part : {f : ℕ → A} {d : A} {old new : List A} {i : ℕ} (g : ℕ → A) → Swept f d old new i
      → ((k : ℕ) → k < i → f k ≡ g k) → ((k : ℕ) → i ≤ k → get_or old k d ≡ g k) → new ≡ tab (length old) g
  swept_part {f} {d} {old} {new} {i} g s lo hi =
      sym (tab-get_or (length old) new d s.filled.size) ∙ tab_below (length old) (λ k h. at k (dec_lt k i))
    where
      at : (k : ℕ) → Dec (k < i) → get_or new k d ≡ g k
      at k (yes l) = s.filled.done k l ∙ lo k l
      at k (no n) = let h : i ≤ k = omega arith in s.rest k h ∙ hi k h
