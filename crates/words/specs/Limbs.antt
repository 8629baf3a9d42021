-- Numbers of 128 bits as two limbs.
use Rattle.std.specs.Prelude.{ℕ, ◌+◌, ◌*◌, ◌/◌, ◌%◌, ◌^◌}
use Rattle.words.specs.declared.Limbs.{Limbs}

-- the number that two limbs stand for
abbrev pub value : Limbs → ℕ
value l = l.high * 2 ^ 64 + l.low

-- the limbs of a number's lowest 128 bits
abbrev pub limbs : ℕ → Limbs
limbs n = record { low = n % 2 ^ 64; high = n / 2 ^ 64 % 2 ^ 64 }
