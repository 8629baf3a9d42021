-- Composition: in a class that is closed under it, every spelling spells the composed map, and turning goes through.
use mathlib.Core.Path.{◌≡◌, sym, ap, ◌∙◌}
use Prim.Native.Nat.{ℕ, ◌^◌, ◌<◌}
use Rattle.spellings.specs.Maps.{Same, after}
use Rattle.spellings.proofs.Spelling.{Spelling, convert, find-same, convert_valid, convert-same}

-- a class of maps of n-bit numbers that is closed under composition
pub record Closed (n : ℕ) (Map : (ℕ → ℕ) → Type 0) : Type 0 where
  pub below : (f : ℕ → ℕ) → Map f → (a : ℕ) → a < 2 ^ n → f a < 2 ^ n
  pub closed : (f g : ℕ → ℕ) → Map f → Map g → Map (after f g)

module _ {n : ℕ} {Map : (ℕ → ℕ) → Type 0} where
  -- first w, then v
  abbrev pub compose : (S : Spelling n Map) → S.Value → S.Value → S.Value
  compose S v w = S.find (after (S.meaning v) (S.meaning w))

  module _ (C : Closed n Map) (S : Spelling n Map) (v w : S.Value) (hv : S.Valid v) (hw : S.Valid w) where
    composed : Map (after (S.meaning v) (S.meaning w))
    composed = C.closed (S.meaning v) (S.meaning w) (S.means v hv) (S.means w hw)

    pub compose_valid : S.Valid (compose S v w)
    compose_valid = S.valid _ composed

    pub compose-same : Same n (S.meaning (compose S v w)) (after (S.meaning v) (S.meaning w))
    compose-same = S.found _ composed

  -- turned and composed is composed and turned
  pub compose-convert : Closed n Map → (S T : Spelling n Map) (v w : S.Value) → S.Valid v → S.Valid w
      → convert S T (compose S v w) ≡ compose T (convert S T v) (convert S T w)
  compose-convert C S T v w hv hw =
      find-same T _ _ (S.means _ (compose_valid C S v w hv hw))
      (composed C T (convert S T v) (convert S T w) (convert_valid S T v hv) (convert_valid S T w hw))
      (λ a h. compose-same C S v w hv hw a h
      ∙ sym (convert-same S T v hv _ (C.below _ (T.means _ (convert_valid S T w hw)) a h) ∙ ap (S.meaning v) (convert-same S T w hw a h)))
