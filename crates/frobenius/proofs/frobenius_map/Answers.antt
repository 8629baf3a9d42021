-- `frobenius::frobenius_map` meets its contract: the table's rule. Assumes nothing.
use mathlib.Core.Path.{◌∙◌}
use Rattle.frobenius.proofs.Frobenius.{frobenius, frobenius_rule}
use Rattle.frobenius.proofs.frobenius_map.Goals as goal

pub returns : goal.returns
unfolding frobenius
returns c = c.from_quadword.ensures ∙ frobenius_rule c.args.power_log
