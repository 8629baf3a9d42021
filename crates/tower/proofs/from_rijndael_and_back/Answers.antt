-- `tower::from_rijndael_and_back` meets its contract: `out_into` at a byte. Assumes nothing.
use mathlib.Core.Path.{ap, ◌∙◌}
use borrow.Author.Rules.{rules}
use Rattle.rijndael.specs.Element.{element}
use Rattle.towers.specs.Basis.{out}
use Rattle.towers.proofs.Basis.{out_into}
use Rattle.tower.proofs.from_rijndael_and_back.Goals as goal

pub returns : goal.returns
returns c = ap element (c.from-2.ensures ∙ ap out c.from.ensures ∙ out_into c.args.x.0 (search rules))
