-- The product of the tower by recursion on the level: X_k² = X_(k-1) · X_k + 1, and X_(-1) = 1. A value that is too wide
-- for the level counts by its bits below, so that the laws need no bounds.
use Rattle.std.specs.Prelude.{ℕ, zero, suc, ◌*◌, ◌%◌, ◌^◌}
use Rattle.gf2.specs.Poly.{coef}
use Rattle.towers.specs.Level.{◌⊞◌, size, lo, hi, join}

-- X_(k-1), the topmost generator of level k
unfoldable pub gen : ℕ → ℕ
gen zero = 1
gen (suc k) = size k

-- X_(k-1) · a
unfoldable pub talpha : ℕ → ℕ → ℕ
talpha zero a = a % 2
talpha (suc k) a = join k (hi k a) (lo k a ⊞ talpha k (hi k a))

-- (a0 + a1 · X_k) · (b0 + b1 · X_k), where X_k² is X_(k-1) · X_k + 1
unfoldable pub tmul : ℕ → ℕ → ℕ → ℕ
tmul zero a b = a % 2 * (b % 2)
tmul (suc k) a b =
    join k (tmul k (lo k a) (lo k b) ⊞ tmul k (hi k a) (hi k b))
    (tmul k (lo k a) (hi k b) ⊞ tmul k (hi k a) (lo k b) ⊞ talpha k (tmul k (hi k a) (hi k b)))

-- the product of the generators X_i that the bits i < k of j name
unfoldable pub monomial : ℕ → ℕ → ℕ
monomial zero j = 1
monomial (suc k) j = tmul (suc k) (gen (suc k) ^ coef j k) (monomial k j)
