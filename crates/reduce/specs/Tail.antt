-- The tails of four terms that a modulus has.
use Rattle.std.specs.Prelude.{ℕ, ◌^◌}
use Rattle.gf2.specs.Poly.{◌⊕◌}

-- x^i + x^j + x^k + 1
abbrev pub tail : ℕ → ℕ → ℕ → ℕ
tail i j k = 2 ^ i ⊕ 2 ^ j ⊕ 2 ^ k ⊕ 1
