-- The version of the library, as a program in another language asks for it.
use Rattle.std.specs.Prelude.{ℕ, ◌+◌, ◌*◌, ◌^◌}

-- three numbers below 256 as one
abbrev pub release : ℕ → ℕ → ℕ → ℕ
release major minor patch = major * 2 ^ 16 + minor * 2 ^ 8 + patch

-- 0.2.0
abbrev pub version : ℕ
version = release 0 2 0
