-- The halves of a value keep sums, and a value is its halves joined.
use mathlib.Core.Path.{◌≡◌, sym, ap, ap₂, ◌∙◌}
use Prim.Native.Nat.{ℕ, suc, ◌+◌, ◌*◌, ◌/◌, ◌%◌, ◌^◌, ◌<◌}
use native.Mathlib.Nat.{mod-lt, zero-mul, zero-mod, mod-eq_of_lt, div-eq_of_lt, two-pow-succ, lt_of_lt_of_le}
use native.Mathlib.Omega.{arith}
use lib.Pow.{pow_pos, pow_mono, pow-lt, shl_lt, shr_lt, high, low}
use lib.Bits.{xor_shifted}
use Rattle.towers.specs.Level.{◌⊞◌, size, lo, hi, join}
use Rattle.gf2.proofs.Shift.{xor_split}
use Rattle.towers.proofs.Sum.{sum-ring, sum_lt, sum-shr, sum-mod, sum-shl}

module _ (k : ℕ) where
  pub size_pos : 0 < size k
  size_pos = pow_pos (2 ^ k)

  pub one-lt : 1 < size k
  one-lt = pow-lt (pow_pos k)

  pub lo-lt : (a : ℕ) → lo k a < size k
  unfolding lo
  lo-lt a = mod-lt a size_pos

  pub hi-lt : (a : ℕ) → hi k a < size k
  unfolding hi
  hi-lt a = mod-lt (a / size k) size_pos

  -- ---- the halves keep sums

  pub lo-sum : (a b : ℕ) → lo k (a ⊞ b) ≡ lo k a ⊞ lo k b
  unfolding lo
  lo-sum a b = sum-mod a b (2 ^ k)

  pub hi-sum : (a b : ℕ) → hi k (a ⊞ b) ≡ hi k a ⊞ hi k b
  unfolding hi
  hi-sum a b = simp (sum-shr, sum-mod)

  pub join-sum : (x y u v : ℕ) → join k x y ⊞ join k u v ≡ join k (x ⊞ u) (y ⊞ v)
  unfolding join
  join-sum x y u v = simp (sum-shl, sum-ring)

  -- ---- join and split

  module _ {x : ℕ} (hx : x < size k) where
    pub lo_low : lo k x ≡ x
    unfolding lo
    lo_low = mod-eq_of_lt hx

    pub hi_low : hi k x ≡ 0
    unfolding hi
    hi_low = simp (div-eq_of_lt hx, zero-mod)

    pub lo-join : (y : ℕ) → lo k (join k x y) ≡ x
    unfolding lo join ◌⊞◌
    lo-join y = rw (xor_shifted y (2 ^ k) x hx) (low y (2 ^ k) hx)

    pub hi-join : {y : ℕ} → y < size k → hi k (join k x y) ≡ y
    unfolding hi join ◌⊞◌
    hi-join {y} hy = rw (xor_shifted y (2 ^ k) x hx, high y (2 ^ k) hx) (mod-eq_of_lt hy)

    pub join-lt : {y : ℕ} → y < size k → join k x y < size (suc k)
    unfolding join
    join-lt {y} hy =
        rw (two-pow-succ k) (sum_lt (2 ^ k + 2 ^ k) (shl_lt (2 ^ k) (2 ^ k) hy) (lt_of_lt_of_le hx (pow_mono (omega arith))))

  pub join_low : (x : ℕ) → join k x 0 ≡ x
  unfolding join
  join_low x = simp (zero-mul, sum-ring)

  pub join_high : (y : ℕ) → join k 0 y ≡ y * size k
  unfolding join
  join_high y = simp sum-ring

  pub join_split : {a : ℕ} → a < size (suc k) → join k (lo k a) (hi k a) ≡ a
  unfolding join lo hi ◌⊞◌
  join_split {a} h =
      ap (λ (q : ℕ). q * size k ⊞ a % size k) (mod-eq_of_lt (shr_lt (2 ^ k) (2 ^ k) (rw two-pow-succ at h))) ∙ xor_split a (2 ^ k)

  -- values of level k + 1 are equal where their halves are
  pub by_halves : {a b : ℕ} → a < size (suc k) → b < size (suc k) → lo k a ≡ lo k b → hi k a ≡ hi k b → a ≡ b
  by_halves ha hb p q = sym (join_split ha) ∙ ap₂ (join k) p q ∙ join_split hb

  -- the values of level k are values of level k + 1
  pub up_lt : {x : ℕ} → x < size k → x < size (suc k)
  up_lt {x} h = rw join_low at (join-lt h size_pos)
