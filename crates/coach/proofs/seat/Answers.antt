-- `coach::seat` meets its contract: the code's test is the bit. Assumes nothing.
use borrow.Author.Tests.{eq-eqb, ne_eqb}
use Rattle.gf2.proofs.Bits.{coef_mask}
use Rattle.coach.proofs.seat.Goals as goal

pub returns-then-row-i-eq1 : goal.returns-then-row-i-eq1
returns-then-row-i-eq1 c = simp (← (coef_mask c.args.row c.args.i), eq-eqb _ _ c.if-row-i-eq1.true)

pub returns-else-row-i-eq1 : goal.returns-else-row-i-eq1
returns-else-row-i-eq1 c = simp (← (coef_mask c.args.row c.args.i), ne_eqb _ _ c.if-row-i-eq1.false)
