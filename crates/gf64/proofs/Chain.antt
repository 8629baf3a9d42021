-- The inverse's addition chain: powers a^(2^k - 1) for k = 1, 2, 3, 6, 12, 24, 48, 60, 63, and a last squaring.
use mathlib.Core.Path.{◌≡◌, sym, ap, ap₂, ◌∙◌}
use Prim.Native.Nat.{ℕ, ◌+◌, ◌-◌, ◌^◌, ◌<◌}
use lib.Dec.{lit<}
use Rattle.gf2.specs.Residue.{mul, sq, pow, frob, inv}
use Rattle.gf2.proofs.Ring.{mul-one_r}
use Rattle.gf2.proofs.Chain.{pow-ones, inv-ones}

-- a to the power 2^k - 1
unfoldable pub ones : ℕ → ℕ → ℕ
ones k a = pow 64 0x1b a (2 ^ k - 1)

pub ones-one : (a : ℕ) → a < 2 ^ 64 → a ≡ ones 1 a
unfolding ones pow
ones-one a h = sym (mul-one_r 64 0x1b a h)

-- one step: what stands at i, squared j times, times what stands at j
pub ones_step : (a i j : ℕ) {x y s r : ℕ} → x ≡ ones i a → y ≡ ones j a → s ≡ frob 64 0x1b j x → r ≡ mul 64 0x1b s y → r ≡ ones (i + j) a
unfolding ones
ones_step a i j p q e f = f ∙ ap₂ (mul 64 0x1b) (e ∙ ap (frob 64 0x1b j) p) q ∙ sym (pow-ones 64 0x1b (lit< tt) (lit< tt) a i j)

-- one squaring
pub frob-one : (x : ℕ) {s : ℕ} → s ≡ sq 64 0x1b x → s ≡ frob 64 0x1b 1 x
unfolding frob
frob-one x e = e

pub ones_end : (a : ℕ) {x r : ℕ} → x ≡ ones 63 a → r ≡ sq 64 0x1b x → r ≡ inv 64 0x1b a
unfolding ones
ones_end a p e = e ∙ ap (sq 64 0x1b) p ∙ sym (inv-ones 63 0x1b (lit< tt) (lit< tt) a)
