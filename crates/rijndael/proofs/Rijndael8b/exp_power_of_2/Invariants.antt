use Rattle.std.proofs.Common.{◌≡◌}
use Rattle.gf2.specs.Residue.{frob}
use Rattle.rijndael.proofs.Rijndael8b.exp_power_of_2.Given as goal

abbrev pub invariant-loop-turn : goal.invariant-loop-turn
invariant-loop-turn l = l.x.0 ≡ frob 8 0x1b l._turn l.initial.x.0
