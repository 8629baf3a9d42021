use lib.ListN.{get_or}
use Rattle.spellings.specs.Quadword.{image}
use Rattle.gf2.proofs.Sweep.{Swept}
use Rattle.matrix.proofs.ByteMatrix.apply_slice.Given as goal

abbrev pub invariant-loop-byte : goal.invariant-loop-byte
invariant-loop-byte l = Swept (λ k. image l.self.0 (get_or l.initial.bytes k 0)) 0 l.initial.bytes l.bytes l.byte-index
