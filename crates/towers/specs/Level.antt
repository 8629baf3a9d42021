-- The levels of the tower: a value of level k has 2^k bits, and one of level k + 1 splits into two halves of level k.
use Rattle.std.specs.Prelude.{ℕ, ◌*◌, ◌/◌, ◌%◌, ◌^◌}
use Rattle.gf2.specs.Poly.{◌⊕◌}

-- the sum of two values is XOR; a name of its own keeps long sums in order
infixl 65 ◌⊞◌
unfoldable pub ◌⊞◌ : ℕ → ℕ → ℕ
◌⊞◌ = ◌⊕◌

-- the number of values of level k
abbrev pub size : ℕ → ℕ
size k = 2 ^ (2 ^ k)

-- the halves of a value of level k + 1, and the value x + y · X_k with given halves
unfoldable pub lo : ℕ → ℕ → ℕ
lo k a = a % size k

unfoldable pub hi : ℕ → ℕ → ℕ
hi k a = a / size k % size k

unfoldable pub join : ℕ → ℕ → ℕ → ℕ
join k x y = y * size k ⊞ x
