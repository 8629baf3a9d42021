-- SPELLINGS of a class of maps of n-bit numbers: every value means a map of the class, and every map of the class has
-- exactly one value. What is to be said of turning one spelling into another follows from that, here, once.
use mathlib.Core.Path.{◌≡◌, refl, sym, ap, ◌∙◌}
use Prim.Native.Nat.{ℕ}
use Rattle.spellings.specs.Maps.{Same}

pub record Spelling (n : ℕ) (Map : (ℕ → ℕ) → Type 0) : Type 1 where
  pub Value : Type 0
  pub Valid : Value → Type 0
  pub meaning : Value → ℕ → ℕ
  pub find : (ℕ → ℕ) → Value
  pub means : (v : Value) → Valid v → Map (meaning v)
  pub valid : (f : ℕ → ℕ) → Map f → Valid (find f)
  pub found : (f : ℕ → ℕ) → Map f → Same n (meaning (find f)) f
  pub unique : (v w : Value) → Valid v → Valid w → Same n (meaning v) (meaning w) → v ≡ w

module _ {n : ℕ} {Map : (ℕ → ℕ) → Type 0} where
  abbrev pub convert : (S T : Spelling n Map) → S.Value → T.Value
  convert S T v = T.find (S.meaning v)

  module _ (S : Spelling n Map) where
    -- what spells a map is what is found for it
    pub only : (f : ℕ → ℕ) → Map f → (w : S.Value) → S.Valid w → Same n (S.meaning w) f → w ≡ S.find f
    only f m w h e = S.unique w (S.find f) h (S.valid f m) (λ a l. e a l ∙ sym (S.found f m a l))

    -- maps that agree have one spelling
    pub find-same : (f g : ℕ → ℕ) → Map f → Map g → Same n f g → S.find f ≡ S.find g
    find-same f g mf mg e = only g mg (S.find f) (S.valid f mf) (λ a l. S.found f mf a l ∙ e a l)

    pub find-meaning : (v : S.Value) → S.Valid v → S.find (S.meaning v) ≡ v
    find-meaning v h = sym (only (S.meaning v) (S.means v h) v h (λ a l. refl))

    -- and maps of one spelling agree
    pub same-find : (f g : ℕ → ℕ) → Map f → Map g → S.find f ≡ S.find g → Same n f g
    same-find f g mf mg e a l = sym (S.found f mf a l) ∙ ap (λ (v : S.Value). S.meaning v a) e ∙ S.found g mg a l

  module _ (S T : Spelling n Map) where
    -- a spelling on the way changes nothing
    pub find_via : (f : ℕ → ℕ) → Map f → convert S T (S.find f) ≡ T.find f
    find_via f m = find-same T (S.meaning (S.find f)) f (S.means _ (S.valid f m)) m (S.found f m)

  module _ (S T : Spelling n Map) (v : S.Value) (h : S.Valid v) where
    pub convert_valid : T.Valid (convert S T v)
    convert_valid = T.valid (S.meaning v) (S.means v h)

    pub convert-same : Same n (T.meaning (convert S T v)) (S.meaning v)
    convert-same = T.found (S.meaning v) (S.means v h)

    pub convert_back : convert T S (convert S T v) ≡ v
    convert_back = find_via T S (S.meaning v) (S.means v h) ∙ find-meaning S v h
