-- The first k words are numbers, and stand.
use Rattle.std.proofs.Common.{◌≡◌, true}
use Rattle.gf2.proofs.Table.{Filled}
use Rattle.records.specs.Lines.{word_at, value, numbers}
use Rattle.records.proofs.read.Given as goal

abbrev pub invariant-loop-k : goal.invariant-loop-k
invariant-loop-k l = record { good : numbers l.k l.text ≡ true; filled : Filled 8 (λ i. value (word_at l.text i)) 0 l.word-items l.k }
