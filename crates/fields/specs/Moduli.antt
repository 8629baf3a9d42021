-- The three moduli of document 01: x^8 + x^4 + x^3 + x + 1, x^64 + x^4 + x^3 + x + 1 and x^128 + x^7 + x^2 + x + 1, each as
-- what stands below its highest power.
use Rattle.std.specs.Prelude.{ℕ}

abbrev pub tail8 : ℕ
tail8 = 0x1b

abbrev pub tail64 : ℕ
tail64 = 0x1b

abbrev pub tail128 : ℕ
tail128 = 0x87
