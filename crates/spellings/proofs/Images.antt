-- IMAGES: n numbers of n bits; entry b is where 2^b goes.
use mathlib.Core.Path.{◌≡◌, refl, ◌∙◌}
use mathlib.Core.List.{List, [], ◌∷◌}
use Prim.Native.Nat.{ℕ, zero, suc, ◌*◌, ◌/◌, ◌%◌, ◌^◌, ◌<◌}
use native.Mathlib.Nat.{zero-mul, one-mul, pow-suc}
use lib.Pow.{pow_pos, pow-lt}
use lib.Bits.{xor_lt, xor_zero_r}
use lib.ListN.{get_or}
use Rattle.gf2.specs.Bits.{tab}
use Rattle.gf2.specs.Linear.{apply}
use Rattle.spellings.specs.Maps.{Linear}
use Rattle.spellings.specs.Lists.{Residues, find_images}
use Rattle.gf2.proofs.Xor.{bit-lt}
use Rattle.gf2.proofs.Shift.{dbl_half, dbl_bit, bit-mul-lt}
use Rattle.gf2.proofs.Linear.{apply-xor, apply-zero}
use Rattle.gf2.proofs.Table.{length-tab, get_or-tab, tab_below, tab-lt, tab-get_or}
use Rattle.spellings.proofs.Spelling.{Spelling}
use Rattle.spellings.proofs.Linear.{Finder, spelling}

pub residues : (n : ℕ) {f : ℕ → ℕ} → ((i : ℕ) → i < n → f i < 2 ^ n) → Residues n (tab n f)
residues n {f} h = record { size = length-tab n f; below = tab-lt (2 ^ n) n (pow_pos n) h }

-- ---- the map with the given images is gf2's `apply`: the sum of the images of the digits

apply-lt : (n : ℕ) (l : List ℕ) → ((i : ℕ) → get_or l i 0 < 2 ^ n) → (a : ℕ) → apply l a < 2 ^ n
unfolding apply
apply-lt n [] h a = pow_pos n
apply-lt n (x ∷ l) h a = xor_lt n (a % 2 * x) (apply l (a / 2)) (bit-mul-lt n (bit-lt a) (h 0)) (apply-lt n l (λ i. h (suc i)) (a / 2))

pub apply-pow : (l : List ℕ) (b : ℕ) → apply l (2 ^ b) ≡ get_or l b 0
unfolding apply
apply-pow [] zero = refl
apply-pow [] (suc b) = refl
apply-pow (x ∷ l) zero = simp (one-mul, apply-zero l, xor_zero_r)
apply-pow (x ∷ l) (suc b) = simp (pow-suc, dbl_half, dbl_bit, zero-mul) (apply-pow l b)

pub images_finder : (n : ℕ) → Finder n (List ℕ) (Residues n) apply (find_images n)
unfolding find_images
images_finder n =
    record {
      means = λ l h. record { keeps = λ a b ha hb. apply-xor l a b; below = λ a ha. apply-lt n l h.below a };
      valid = λ f m. residues n (λ b h. m.below (2 ^ b) (pow-lt h));
      reads = λ f g e. tab_below n e;
      hits = λ f m b h. apply-pow (tab n (λ b. f (2 ^ b))) b ∙ get_or-tab n (λ b. f (2 ^ b)) 0 b h;
      undoes = λ l h. tab_below n (λ b k. apply-pow l b) ∙ tab-get_or n l 0 h.size;
    }

abbrev pub images : (n : ℕ) → Spelling n (Linear n)
images n = spelling (images_finder n)
