use Rattle.std.proofs.Common.{get_or}
use Rattle.gf2.specs.Residue.{mul}
use Rattle.gf2.proofs.Sweep.{Swept}
use Rattle.sweeps.proofs.mul_slice.Given as goal

abbrev pub invariant-loop-i : goal.invariant-loop-i
invariant-loop-i l = Swept (λ k. mul 8 0x1b (get_or l.initial.dst k 0) (get_or l.src k 0)) 0 l.initial.dst l.dst l.i
