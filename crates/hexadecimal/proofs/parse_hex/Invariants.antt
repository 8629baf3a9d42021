use Rattle.std.proofs.Common.{◌≡◌, true, ◌*◌, ◌^◌, ◌<◌}
use Rattle.hexadecimal.specs.Hex.{digits, number as number_of}
use Rattle.hexadecimal.proofs.parse_hex.Given as goal

abbrev pub invariant-loop-c : goal.invariant-loop-c
invariant-loop-c l = (digits l.c-index l.text ≡ true) × (l.number ≡ number_of l.c-index l.text) × (l.number < 2 ^ (4 * l.c-index))
