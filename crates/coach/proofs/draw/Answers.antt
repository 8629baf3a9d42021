-- `coach::draw` meets its contract: each call gives its seat. Assumes nothing.
use Rattle.std.proofs.Common.{rules}
use Rattle.coach.specs.Rows.{drawn}
use Rattle.gf2.proofs.Arrays.{made_table}
use Rattle.coach.proofs.draw.Goals as goal

pub returns : goal.returns
unfolding drawn
returns c = made_table _ _ 8 _ (λ i y q l called. search rules) c.from_fn.ensures.items
