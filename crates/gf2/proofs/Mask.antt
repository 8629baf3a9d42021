-- A mask that is all ones or all zeros, at any width.
use mathlib.Core.Path.{◌≡◌, sym, ap, ◌∙◌}
use Prim.Native.Nat.{ℕ, zero, suc, ◌+◌, ◌-◌, ◌*◌, ◌%◌, ◌^◌, ◌≤◌, ◌<◌}
use native.Mathlib.Nat.{mod-eq_of_lt, mul-zero, mul-one, add-zero, lt_of_lt_of_le}
use native.Mathlib.Omega.{arith}
use native.Mathlib.Decide.{dec_lt}
use lib.Bits.{bit_and, and_mask, and_zero_r}
use lib.Pow.{shl_exact, shl_lt, pow_mono}

-- r + 1 wraps to 0, so r is all ones
all_ones : (w r : ℕ) → r < 2 ^ w → (r + 1) % 2 ^ w ≡ 0 → r ≡ 2 ^ w - 1
all_ones w r h e = go (dec_lt (r + 1) (2 ^ w))
  where
    go : Dec (r + 1 < 2 ^ w) → r ≡ 2 ^ w - 1
    go (yes l) = let f : r + 1 ≡ 0 = sym (mod-eq_of_lt l) ∙ e in omega arith
    go (no n) = omega arith

-- the select mask 0 - x of a bit x: `(m & mask)` is m where the bit is set and 0 where it is not
pub select : (w m r x : ℕ) → m < 2 ^ w → r < 2 ^ w → x < 2 → (r + x) % 2 ^ w ≡ 0 → bit_and m r ≡ m * x
select w m r zero hm hr hx e =
    let z : r ≡ 0 = sym (mod-eq_of_lt hr) ∙ ap (λ (n : ℕ). n % 2 ^ w) (sym (add-zero r)) ∙ e in
    ap (bit_and m) z ∙ and_zero_r m ∙ sym (mul-zero m)
select w m r (suc zero) hm hr hx e =
    ap (bit_and m) (all_ones w r hr e) ∙ and_mask m w ∙ mod-eq_of_lt hm ∙ sym (mul-one m)
select w m r (suc (suc x)) hm hr hx e = absurd (omega arith)

-- `(a << k) & mask`, where nothing is shifted out and the mask is 0 less the lowest bit of y
pub shl_select : (j k w a r y : ℕ) → a < 2 ^ j → j + k ≤ w → r < 2 ^ w → (r + bit_and y 1) % 2 ^ w ≡ 0
    → bit_and (a * 2 ^ k % 2 ^ w) r ≡ a * 2 ^ k * (y % 2)
shl_select j k w a r y ha hw hr e =
    ap (λ (n : ℕ). bit_and n r) (shl_exact j k w ha hw)
    ∙ select w (a * 2 ^ k) r (y % 2) (lt_of_lt_of_le (shl_lt j k ha) (pow_mono hw)) hr (omega arith)
    (ap (λ (n : ℕ). (r + n) % 2 ^ w) (sym (and_mask y 1)) ∙ e)

-- `(y & 1) << s`, where the bit is not shifted out
pub shl-bit : (w s y : ℕ) → s < w → bit_and y 1 * 2 ^ s % 2 ^ w ≡ y % 2 * 2 ^ s
shl-bit w s y h = ap (λ (n : ℕ). n * 2 ^ s % 2 ^ w) (and_mask y 1) ∙ shl_exact 1 s w (omega arith) (omega arith)
