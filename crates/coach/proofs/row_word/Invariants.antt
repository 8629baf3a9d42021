use Rattle.std.proofs.Common.{◌≡◌}
use Rattle.gf2.specs.Poly.{xsum}
use Rattle.coach.proofs.Packing.{row}
use Rattle.coach.proofs.row_word.Given as goal

abbrev pub invariant-loop-k : goal.invariant-loop-k
invariant-loop-k l = l.word ≡ xsum l.k (row l.rows 0)
