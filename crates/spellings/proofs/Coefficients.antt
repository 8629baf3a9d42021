-- COEFFICIENTS: n residues modulo x^n + t; they send v to the sum of c_j · v^(2^j). They are found by the dual basis d: c_j is
-- the sum of (the image of 2^b) · d_b^(2^j). That this undoes the sum, both ways round, is two computed tests.
use mathlib.Core.Path.{◌≡◌, refl, sym, ap, ◌∙◌}
use mathlib.Core.List.{List}
use Prim.Native.Nat.{ℕ, ◌^◌, ◌<◌}
use lib.Dec.{T}
use lib.Pow.{pow-lt}
use lib.ListN.{get_or}
use Rattle.gf2.specs.Poly.{◌⊕◌}
use Rattle.gf2.specs.Bits.{tab}
use Rattle.gf2.specs.Residue.{mul, frob}
use Rattle.gf2.specs.Linear.{apply}
use Rattle.spellings.specs.Maps.{Linear}
use Rattle.spellings.specs.Lists.{Residues, times, eval, dual, find_coefficients}
use Rattle.gf2.proofs.Sum.{xsum_below, xsum-lt, xsum-xor}
use Rattle.gf2.proofs.Table.{get_or-tab, tab_below, tab-get_or}
use Rattle.gf2.proofs.Ring.{mul-xor_r, mul-lt}
use Rattle.gf2.proofs.Power.{frob-xor}
use Rattle.spellings.proofs.Spelling.{Spelling}
use Rattle.spellings.proofs.Linear.{Finder, spelling}
use Rattle.spellings.proofs.Images.{residues, apply-pow}
use Rattle.spellings.proofs.Rows.{times_below, times-undo, undo_test}

-- the powers 2^j of the basis, and of its dual
abbrev pub basis : ℕ → ℕ → ℕ → ℕ → ℕ
basis n t j b = frob n t j (2 ^ b)

-- from images
pub find_images-coefficients : (n t : ℕ) (ds l : List ℕ)
    → tab n (times n t (λ b. get_or l b 0) (dual n t ds)) ≡ find_coefficients n t ds (apply l)
unfolding find_coefficients
find_images-coefficients n t ds l = tab_below n (λ j h. times_below n t (dual n t ds) j (λ b k. sym (apply-pow l b)))

eval-pow : (n t : ℕ) (cs : List ℕ) (b : ℕ) → eval n t cs (2 ^ b) ≡ times n t (λ j. get_or cs j 0) (basis n t) b
unfolding eval times
eval-pow n t cs b = refl

eval_xor : (n t : ℕ) (cs : List ℕ) (a b : ℕ) → eval n t cs (a ⊕ b) ≡ eval n t cs a ⊕ eval n t cs b
unfolding eval
eval_xor n t cs a b =
    xsum_below n (λ j h. ap (mul n t (get_or cs j 0)) (frob-xor n t j a b) ∙ mul-xor_r n t (get_or cs j 0) (frob n t j a) (frob n t j b))
    ∙ xsum-xor n (λ j. mul n t (get_or cs j 0) (frob n t j a)) (λ j. mul n t (get_or cs j 0) (frob n t j b))

module _ (n t : ℕ) (ht : t < 2 ^ n) where
  eval-lt : (cs : List ℕ) (v : ℕ) → eval n t cs v < 2 ^ n
  unfolding eval
  eval-lt cs v = xsum-lt n n (λ j h. mul-lt n t ht (get_or cs j 0) (frob n t j v))

  pub eval_linear : (cs : List ℕ) → Linear n (eval n t cs)
  eval_linear cs = record { keeps = λ a b ha hb. eval_xor n t cs a b; below = λ a h. eval-lt cs a }

  times-lt : (x : ℕ → ℕ) (m : ℕ → ℕ → ℕ) (k : ℕ) → times n t x m k < 2 ^ n
  unfolding times
  times-lt x m k = xsum-lt n n (λ j h. mul-lt n t ht (x j) (m j k))

  module _ (ds : List ℕ) (there : T (undo_test n t (dual n t ds) (basis n t))) (back : T (undo_test n t (basis n t) (dual n t ds))) where
    hits : (f : ℕ → ℕ) → Linear n f → (b : ℕ) → b < n → eval n t (find_coefficients n t ds f) (2 ^ b) ≡ f (2 ^ b)
    unfolding find_coefficients
    hits f m b h =
        eval-pow n t (find_coefficients n t ds f) b
        ∙ times_below n t (basis n t) b (get_or-tab n (times n t (λ b. f (2 ^ b)) (dual n t ds)) 0)
        ∙ times-undo n t ht (dual n t ds) (basis n t) there (λ b. f (2 ^ b)) (λ b l. m.below (2 ^ b) (pow-lt l)) b h

    undoes : (cs : List ℕ) → Residues n cs → find_coefficients n t ds (eval n t cs) ≡ cs
    unfolding find_coefficients
    undoes cs r =
        tab_below n (λ j h. times_below n t (dual n t ds) j (λ b l. eval-pow n t cs b)
        ∙ times-undo n t ht (basis n t) (dual n t ds) back (λ j. get_or cs j 0) (λ j l. r.below j) j h)
        ∙ tab-get_or n cs 0 r.size

    pub coefficients_finder : Finder n (List ℕ) (Residues n) (eval n t) (find_coefficients n t ds)
    unfolding find_coefficients
    coefficients_finder =
        record {
          means = λ cs r. eval_linear cs;
          valid = λ f m. residues n (λ j h. times-lt (λ b. f (2 ^ b)) (dual n t ds) j);
          reads = λ f g e. tab_below n (λ j h. times_below n t (dual n t ds) j e);
          hits = hits;
          undoes = undoes;
        }

    abbrev pub coefficients : Spelling n (Linear n)
    coefficients = spelling coefficients_finder
