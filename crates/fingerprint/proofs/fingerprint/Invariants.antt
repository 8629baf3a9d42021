use Rattle.std.proofs.Common.{◌≡◌, take}
use Rattle.fingerprint.specs.Print.{print_of}
use Rattle.fingerprint.proofs.fingerprint.Given as goal

abbrev pub invariant-loop-word : goal.invariant-loop-word
invariant-loop-word l = l.sum ≡ print_of (take l.word-index l.words) l.point
