-- Maps of n-bit numbers that keep XOR, and how a spelling of them is made: all is decided on the powers of 2.
use mathlib.Core.Path.{◌≡◌, sym, ap, ap₂, ◌∙◌}
use Prim.Native.Nat.{ℕ, ◌^◌, ◌<◌}
use lib.Pow.{pow-lt}
use lib.Bits.{xor_lt}
use Rattle.gf2.specs.Poly.{◌⊕◌}
use Rattle.spellings.specs.Maps.{Same, Linear}
use Rattle.gf2.proofs.Linear.{linear_ext}
use Rattle.spellings.proofs.Spelling.{Spelling}
use Rattle.spellings.proofs.Compose.{Closed}

-- a map that agrees with such a map is one
pub linear_like : {n : ℕ} {f g : ℕ → ℕ} → Same n g f → Linear n f → Linear n g
linear_like {n} {f} {g} e m =
    record {
      keeps = λ a b ha hb. e (a ⊕ b) (xor_lt n a b ha hb) ∙ m.keeps a b ha hb ∙ sym (ap₂ ◌⊕◌ (e a ha) (e b hb));
      below = λ a h. rw (e a h) (m.below a h);
    }

pub linear_closed : (n : ℕ) → Closed n (Linear n)
linear_closed n =
    record {
      below = λ f m. m.below;
      closed =
          λ f g mf mg. record {
            keeps = λ a b ha hb. ap f (mg.keeps a b ha hb) ∙ mf.keeps (g a) (g b) (mg.below a ha) (mg.below b hb);
            below = λ a h. mf.below (g a) (mg.below a h);
          };
    }

-- f and g agree on the powers of 2
abbrev pub OnPowers : ℕ → (ℕ → ℕ) → (ℕ → ℕ) → Type 0
OnPowers n f g = (b : ℕ) → b < n → f (2 ^ b) ≡ g (2 ^ b)

pub on_powers : {n : ℕ} {f g : ℕ → ℕ} → Linear n f → Linear n g → OnPowers n f g → Same n f g
on_powers {n} {f} {g} hf hg = linear_ext n f g hf.keeps hg.keeps

-- what a finder has to do: read the powers only, hit the map there, and undo the meaning
pub record Finder (n : ℕ) (A : Type 0) (Valid : A → Type 0) (meaning : A → ℕ → ℕ) (find : (ℕ → ℕ) → A) : Type 0 where
  pub means : (v : A) → Valid v → Linear n (meaning v)
  pub valid : (f : ℕ → ℕ) → Linear n f → Valid (find f)
  pub reads : (f g : ℕ → ℕ) → OnPowers n f g → find f ≡ find g
  pub hits : (f : ℕ → ℕ) → Linear n f → OnPowers n (meaning (find f)) f
  pub undoes : (v : A) → Valid v → find (meaning v) ≡ v

module _ {n : ℕ} {A : Type 0} {Valid : A → Type 0} {meaning : A → ℕ → ℕ} {find : (ℕ → ℕ) → A} where
  abbrev pub spelling : Finder n A Valid meaning find → Spelling n (Linear n)
  spelling F =
      record {
        Value = A;
        Valid = Valid;
        meaning = meaning;
        find = find;
        means = F.means;
        valid = F.valid;
        found = λ f m. on_powers (F.means (find f) (F.valid f m)) m (F.hits f m);
        unique = λ v w hv hw e. sym (F.undoes v hv) ∙ F.reads (meaning v) (meaning w) (λ b h. e (2 ^ b) (pow-lt h)) ∙ F.undoes w hw;
      }
