-- The fingerprint of a list that grows.
use Rattle.std.proofs.Common.{◌≡◌, List, ◌++◌, ℕ, fold}
use mathlib.Core.List.{foldl-append}
use Rattle.fingerprint.specs.Print.{step, print_of}

pub print-append : (a b : List ℕ) (point : ℕ) → print_of (a ++ b) point ≡ fold (step point) (print_of a point) b
unfolding print_of
print-append a b point = foldl-append (step point) 0 a b
