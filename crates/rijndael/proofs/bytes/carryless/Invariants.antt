use Rattle.std.proofs.Common.{◌≡◌, ◌%◌, ◌^◌}
use Rattle.gf2.specs.Poly.{cmul}
use Rattle.rijndael.proofs.bytes.carryless.Given as goal

abbrev pub invariant-loop-i : goal.invariant-loop-i
invariant-loop-i l = l.acc ≡ cmul l.a (l.b % 2 ^ l.i)
