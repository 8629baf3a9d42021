-- The generator X_k at which a value splits, and the level of the values that split there.
use Rattle.std.specs.Prelude.{ℕ, suc, Option, None, Some}
use Rattle.tower.specs.declared.Split.{Split}
use Rattle.tower.specs.declared.Split.TheVariants.{X0, X1, X2}

-- k at X_k
abbrev pub index : Split → ℕ
index X0 = 0
index X1 = 1
index X2 = 2

-- a value that splits at X_k has level k + 1, and one that does not has level 0: a single bit
abbrev pub level : Option Split → ℕ
level None = 0
level (Some k) = suc (index k)
