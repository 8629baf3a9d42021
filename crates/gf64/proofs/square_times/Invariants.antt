use Rattle.std.proofs.Common.{◌≡◌}
use Rattle.gf2.specs.Residue.{frob}
use Rattle.gf64.proofs.square_times.Given as goal

abbrev pub invariant-loop : goal.invariant-loop
invariant-loop l = l.y ≡ frob 64 0x1b l.counter l.x
