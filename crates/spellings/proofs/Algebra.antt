-- Composition, for any kind of spelling: found values compose as their maps do, the identity changes nothing, and brackets
-- do not matter. For quadwords the sum of two maps has the sum of their spellings.
use mathlib.Core.Path.{◌≡◌, refl, sym, ap, ◌∙◌}
use Prim.Native.Nat.{ℕ, ◌-◌, ◌*◌, ◌/◌, ◌%◌, ◌^◌}
use Rattle.gf2.specs.Poly.{◌⊕◌, coef}
use Rattle.gf2.specs.Bits.{poly}
use Rattle.spellings.specs.Maps.{Linear, after}
use Rattle.spellings.specs.Quadword.{find_quadword}
use Rattle.spellings.specs.Kinds.{Kind, Value, Valid, meaning, find, compose}
use Rattle.spellings.specs.Theorem.{Composition}
use Rattle.gf2.proofs.Shift.{coef-lt, coef-xor, xor_bits}
use Rattle.gf2.proofs.Sum.{xsum_below, xsum-xor}
use Rattle.spellings.proofs.Spelling.{find-same, find-meaning}
use Rattle.spellings.proofs.Compose.{compose_valid, compose-same}
use Rattle.spellings.proofs.Linear.{linear_closed}
use Rattle.spellings.proofs.Bytes.{kind}

pub identity_linear : Linear 8 (λ a. a)
identity_linear = record { keeps = λ a b ha hb. refl; below = λ a h. h }

pub after_linear : {f g : ℕ → ℕ} → Linear 8 f → Linear 8 g → Linear 8 (after f g)
after_linear {f} {g} mf mg = (linear_closed 8).closed f g mf mg

module _ (k : Kind) where
  means : (v : Value k) → Valid k v → Linear 8 (meaning k v)
  means = (kind k).means

  -- what spells f, after what spells g
  pub compose-find : (f g : ℕ → ℕ) → Linear 8 f → Linear 8 g → compose k (find k f) (find k g) ≡ find k (after f g)
  compose-find f g mf mg =
      find-same (kind k) _ _ (after_linear (means (find k f) ((kind k).valid f mf)) (means (find k g) ((kind k).valid g mg)))
      (after_linear mf mg)
      (λ a h. (kind k).found f mf _ ((means (find k g) ((kind k).valid g mg)).below a h) ∙ ap f ((kind k).found g mg a h))

  module _ (v : Value k) (hv : Valid k v) where
    pub compose_identity_l : compose k (find k (λ a. a)) v ≡ v
    compose_identity_l =
        find-same (kind k) _ _ (after_linear (means _ ((kind k).valid _ identity_linear)) (means v hv)) (means v hv)
        (λ a h. (kind k).found (λ a. a) identity_linear _ ((means v hv).below a h))
        ∙ find-meaning (kind k) v hv

    pub compose_identity_r : compose k v (find k (λ a. a)) ≡ v
    compose_identity_r =
        find-same (kind k) _ _ (after_linear (means v hv) (means _ ((kind k).valid _ identity_linear))) (means v hv)
        (λ a h. ap (meaning k v) ((kind k).found (λ a. a) identity_linear a h))
        ∙ find-meaning (kind k) v hv

  pub compose_assoc : (u v w : Value k) → Valid k u → Valid k v → Valid k w → compose k (compose k u v) w ≡ compose k u (compose k v w)
  compose_assoc u v w hu hv hw =
      let C = linear_closed 8 in
      find-same (kind k) _ _ (after_linear (means _ (compose_valid C (kind k) u v hu hv)) (means w hw))
      (after_linear (means u hu) (means _ (compose_valid C (kind k) v w hv hw)))
      (λ a h. compose-same C (kind k) u v hu hv _ ((means w hw).below a h) ∙ sym (ap (meaning k u) (compose-same C (kind k) v w hv hw a h)))

pub composition : (k : Kind) → Composition k
composition k =
    record { found = compose-find k; identity_l = compose_identity_l k; identity_r = compose_identity_r k; assoc = compose_assoc k }

-- bit k of the quadword of f
abbrev bit : (ℕ → ℕ) → ℕ → ℕ
bit f k = coef (f (2 ^ (k % 8))) (7 - k / 8)

pub find-xor : (f g : ℕ → ℕ) → find_quadword (λ a. f a ⊕ g a) ≡ find_quadword f ⊕ find_quadword g
unfolding find_quadword poly
find-xor f g =
    xsum_below 64 (λ k h. ap (λ (x : ℕ). x * 2 ^ k) (coef-xor (f (2 ^ (k % 8))) (g (2 ^ (k % 8))) (7 - k / 8))
    ∙ xor_bits (coef-lt (f (2 ^ (k % 8))) (7 - k / 8)) (coef-lt (g (2 ^ (k % 8))) (7 - k / 8)) (2 ^ k))
    ∙ xsum-xor 64 (λ k. bit f k * 2 ^ k) (λ k. bit g k * 2 ^ k)
