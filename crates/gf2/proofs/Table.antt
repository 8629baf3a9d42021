-- A list of k entries by its rule. An entry past the end reads as d.
use mathlib.Core.Path.{◌≡◌, refl, sym, ap, ap₂, ◌∙◌}
use mathlib.Core.List.{List, ◌∷◌, map}
use Prim.Native.Nat.{ℕ, zero, suc, ◌+◌, ◌<◌, zero-le, suc-le-suc}
use native.Mathlib.Nat.{le_of_suc-le-suc, not-suc-le-zero}
use native.Mathlib.Decide.{ℕ_discrete}
use native.Mathlib.Omega.{arith}
use lib.ListN.{length, get_or, set, length-set}
use lib.Seq.{ext_get_or, get_or-set_same, get_or-set_other}
use Rattle.gf2.specs.Bits.{tab}

module _ {A : Type 0} where
  pub length-tab : (k : ℕ) (f : ℕ → A) → length (tab k f) ≡ k
  unfolding tab
  length-tab zero f = refl
  length-tab (suc k) f = ap suc (length-tab k (λ i. f (suc i)))

  pub get_or-tab : (k : ℕ) (f : ℕ → A) (d : A) (i : ℕ) → i < k → get_or (tab k f) i d ≡ f i
  unfolding tab
  get_or-tab zero f d i h = absurd (not-suc-le-zero h)
  get_or-tab (suc k) f d zero h = refl
  get_or-tab (suc k) f d (suc i) h = get_or-tab k (λ j. f (suc j)) d i (le_of_suc-le-suc h)

  -- entry by entry
  pub tab_below : (k : ℕ) {f g : ℕ → A} → ((i : ℕ) → i < k → f i ≡ g i) → tab k f ≡ tab k g
  unfolding tab
  tab_below zero h = refl
  tab_below (suc k) h = ap₂ ◌∷◌ (h 0 (suc-le-suc zero-le)) (tab_below k (λ i l. h (suc i) (suc-le-suc l)))

  -- a list is the table of its entries
  pub tab-get_or : (k : ℕ) (l : List A) (d : A) → length l ≡ k → tab k (λ i. get_or l i d) ≡ l
  tab-get_or k l d e =
      ext_get_or d (tab k (λ i. get_or l i d)) l (length-tab k (λ i. get_or l i d) ∙ sym e)
      (λ i h. get_or-tab k (λ j. get_or l j d) d i (rw length-tab at h))

  -- ---- a loop that fills an array of k entries: i of them are there

  pub record Filled (k : ℕ) (f : ℕ → A) (d : A) (l : List A) (i : ℕ) : Type 0 where
    pub size : length l ≡ k
    pub done : (j : ℕ) → j < i → get_or l j d ≡ f j

  pub filled_none : {k : ℕ} {f : ℕ → A} {d : A} {l : List A} → length l ≡ k → Filled k f d l 0
  filled_none e = record { size = e; done = λ j h. absurd (not-suc-le-zero h) }

  pub filled_turn : {k : ℕ} {f : ℕ → A} {d : A} {l : List A} {i : ℕ} {x : A} → i < k → Filled k f d l i → x ≡ f i → Filled k f d (set l i x) (i + 1)
  filled_turn {k} {f} {d} {l} {i} {x} h p e =
      record { size = length-set l i x ∙ p.size; done = λ j g. pick j (ℕ_discrete j i) g }
    where
      pick : (j : ℕ) → Dec (j ≡ i) → j < i + 1 → get_or (set l i x) j d ≡ f j
      pick j (yes q) g = rw q (get_or-set_same l i x d (rw p.size h) ∙ e)
      pick j (no ne) g = get_or-set_other l i j x d ne ∙ p.done j (omega arith)

  pub filled_all : {k : ℕ} {f : ℕ → A} {d : A} {l : List A} → Filled k f d l k → l ≡ tab k f
  filled_all {k} {f} {d} {l} p = sym (tab-get_or k l d p.size) ∙ tab_below k p.done

pub map-tab : {A B : Type 0} (g : A → B) (k : ℕ) (f : ℕ → A) → map g (tab k f) ≡ tab k (λ i. g (f i))
unfolding tab
map-tab g zero f = refl
map-tab g (suc k) f = ap (λ l. g (f 0) ∷ l) (map-tab g k (λ i. f (suc i)))

-- every entry, and the 0 past the end, is below m
pub tab-lt : (m k : ℕ) {f : ℕ → ℕ} → 0 < m → ((i : ℕ) → i < k → f i < m) → (i : ℕ) → get_or (tab k f) i 0 < m
unfolding tab
tab-lt m zero p h i = p
tab-lt m (suc k) p h zero = h 0 (suc-le-suc zero-le)
tab-lt m (suc k) p h (suc i) = tab-lt m k p (λ j l. h (suc j) (suc-le-suc l)) i
