-- The basis change: its images by the lowest set bit, and that the two maps undo each other and keep sums and products.
use mathlib.Core.Path.{◌≡◌, refl, sym, ap, ap₂, ◌∙◌}
use mathlib.Core.Bool.{Bool}
use mathlib.Core.List.{List, [], ◌∷◌}
use mathlib.Core.Logic.{◌≢◌}
use Prim.Native.Nat.{ℕ, zero, suc, ◌-◌, ◌^◌, ◌<◌}
use native.Mathlib.Nat.{le_of_suc-le-suc}
use lib.Bits.{bit_and}
use lib.Count.{count_trailing_zeros}
use lib.ListN.{get_or}
use lib.Dec.{T, eqb, eqb→eq, ltb, ltb→lt}
use Rattle.gf2.specs.Poly.{bin_rec, bin_go, ◌⊕◌, coef, cmul}
use Rattle.gf2.specs.Bits.{tab}
use Rattle.gf2.specs.Linear.{apply}
use Rattle.gf2.specs.Residue.{red, rem, mul}
use Rattle.towers.specs.Level.{◌⊞◌, lo, hi, join}
use Rattle.towers.specs.Mul.{talpha, tmul}
use Rattle.towers.specs.Basis.{bmul, xi, monomial_image, out_images, out, into_images, into}
use Rattle.gf2.proofs.Ring.{mul-xor_l, mul-xor_r}
use Rattle.gf2.proofs.Linear.{all, all_at, apply-xor, linear_test}
use Rattle.towers.proofs.Mul.{tmul-lt}
use Rattle.towers.proofs.Ring.{tmul-sum_l, tmul-sum_r}
use Rattle.towers.proofs.Maps.{columns-lt, bilinear_test}

-- ---- the images, written out

abbrev pub written : List ℕ
written = 0x01 ∷ 0xbc ∷ 0x0c ∷ 0x51 ∷ 0x35 ∷ 0x25 ∷ 0x67 ∷ 0xa7 ∷ []

pub out_images_are : out_images ≡ written
unfolding out_images tab monomial_image xi coef mul rem red cmul bin_rec bin_go
out_images_are = refl

pub out_is : (a : ℕ) → out a ≡ apply written a
unfolding out
out_is a = ap (λ (l : List ℕ). apply l a) out_images_are

-- ---- image j by the lowest set bit of j, which names the generator that is split off

abbrev pub split_off : ℕ → ℕ
split_off j = bmul (get_or xi (count_trailing_zeros 64 j) 0) (monomial_image 3 (bit_and j (j - 1)))

pub image-zero : monomial_image 3 0 ≡ 1
unfolding xi monomial_image coef mul rem red cmul bin_rec bin_go
image-zero = refl

split_test : ℕ → Bool
split_test i = eqb (split_off (suc i)) (monomial_image 3 (suc i))

split_tested : T (all 7 split_test)
unfolding all split_test xi monomial_image coef mul rem red cmul bin_rec bin_go count_trailing_zeros
split_tested = tt

pub image_split : (j : ℕ) → j < 8 → j ≢ 0 → split_off j ≡ monomial_image 3 j
unfolding split_test
image_split zero h ne = absurd (ne refl)
image_split (suc i) h ne = eqb→eq (split_off (suc i)) (monomial_image 3 (suc i)) (all_at 7 split_test split_tested i (le_of_suc-le-suc h))

lowest_tested : T (all 7 (λ i. ltb (count_trailing_zeros 64 (suc i)) 3))
unfolding all count_trailing_zeros
lowest_tested = tt

pub lowest_lt : (j : ℕ) → j < 8 → j ≢ 0 → count_trailing_zeros 64 j < 3
lowest_lt zero h ne = absurd (ne refl)
lowest_lt (suc i) h ne =
    ltb→lt (count_trailing_zeros 64 (suc i)) 3 (all_at 7 (λ i. ltb (count_trailing_zeros 64 (suc i)) 3) lowest_tested i (le_of_suc-le-suc h))

-- ---- the maps keep sums, and give bytes

pub out-xor : (a b : ℕ) → out (a ⊕ b) ≡ out a ⊕ out b
unfolding out
out-xor = apply-xor out_images

pub into-xor : (a b : ℕ) → into (a ⊕ b) ≡ into a ⊕ into b
unfolding into
into-xor = apply-xor into_images

pub out_lt : (a : ℕ) → out a < 2 ^ 8
out_lt a = rw out_is (columns-lt 8 written tt a)

pub into_lt : (a : ℕ) → into a < 2 ^ 8
unfolding into into_images
into_lt = columns-lt 8 into_images tt

-- ---- they undo each other

into-written : (a : ℕ) → a < 2 ^ 8 → into (apply written a) ≡ a
unfolding into into_images apply all
into-written =
    linear_test 8 (λ a. into (apply written a)) (λ a. a)
    (λ a b ha hb. ap into (apply-xor written a b) ∙ into-xor (apply written a) (apply written b)) (λ a b ha hb. refl) tt

pub into_out : (a : ℕ) → a < 2 ^ 8 → into (out a) ≡ a
into_out a h = ap into (out_is a) ∙ into-written a h

written-into : (a : ℕ) → a < 2 ^ 8 → apply written (into a) ≡ a
unfolding into into_images apply all
written-into =
    linear_test 8 (λ a. apply written (into a)) (λ a. a)
    (λ a b ha hb. ap (apply written) (into-xor a b) ∙ apply-xor written (into a) (into b)) (λ a b ha hb. refl) tt

pub out_into : (a : ℕ) → a < 2 ^ 8 → out (into a) ≡ a
out_into a h = out_is (into a) ∙ written-into a h

-- ---- they keep products

written-mul : (a b : ℕ) → a < 2 ^ 8 → b < 2 ^ 8 → apply written (tmul 3 a b) ≡ bmul (apply written a) (apply written b)
unfolding apply all mul rem red cmul bin_rec bin_go tmul talpha lo hi join ◌⊞◌
written-mul =
    bilinear_test 8 (λ a b. apply written (tmul 3 a b)) (λ a b. bmul (apply written a) (apply written b))
    record {
      left = λ b x y hx hy. ap (apply written) (tmul-sum_l 3 x y b) ∙ apply-xor written (tmul 3 x b) (tmul 3 y b);
      right = λ a x y hx hy. ap (apply written) (tmul-sum_r 3 a x y) ∙ apply-xor written (tmul 3 a x) (tmul 3 a y);
    }
    record {
      left = λ b x y hx hy. ap (λ (u : ℕ). bmul u (apply written b)) (apply-xor written x y) ∙ mul-xor_l 8 0x1b (apply written x) (apply written y) (apply written b);
      right = λ a x y hx hy. ap (bmul (apply written a)) (apply-xor written x y) ∙ mul-xor_r 8 0x1b (apply written a) (apply written x) (apply written y);
    }
    tt

pub out_mul : (a b : ℕ) → a < 2 ^ 8 → b < 2 ^ 8 → out (tmul 3 a b) ≡ bmul (out a) (out b)
out_mul a b ha hb = out_is (tmul 3 a b) ∙ written-mul a b ha hb ∙ sym (ap₂ bmul (out_is a) (out_is b))

pub into_mul : (a b : ℕ) → a < 2 ^ 8 → b < 2 ^ 8 → into (bmul a b) ≡ tmul 3 (into a) (into b)
into_mul a b ha hb =
    ap into (sym (out_mul (into a) (into b) (into_lt a) (into_lt b) ∙ ap₂ bmul (out_into a ha) (out_into b hb)))
    ∙ into_out (tmul 3 (into a) (into b)) (tmul-lt 3 (into a) (into b))
