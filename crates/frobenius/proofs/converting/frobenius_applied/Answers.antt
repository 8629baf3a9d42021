-- `frobenius::converting::frobenius_applied` meets its contract: `frobenius-image` at a byte. Assumes nothing.
use mathlib.Core.Path.{ap, ◌∙◌}
use borrow.Author.Rules.{rules}
use Rattle.spellings.specs.Quadword.{image}
use Rattle.frobenius.proofs.Frobenius.{frobenius-image}
use Rattle.frobenius.proofs.converting.frobenius_applied.Goals as goal

pub returns : goal.returns
returns c =
    frobenius-image c.args.power_log c.args.x.0 (search rules) c.frobenius_map.ensures
    (c.apply.ensures ∙ ap (image c.frobenius_map.result.0) c.to_byte.ensures)
