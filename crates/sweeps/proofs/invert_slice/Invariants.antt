use Rattle.std.proofs.Common.{get_or}
use Rattle.gf2.specs.Residue.{inv}
use Rattle.gf2.proofs.Sweep.{Swept}
use Rattle.sweeps.proofs.invert_slice.Given as goal

abbrev pub invariant-loop-x : goal.invariant-loop-x
invariant-loop-x l = Swept (λ k. inv 8 0x1b (get_or l.initial.bytes k 0)) 0 l.initial.bytes l.bytes l.x-index
