-- `togasipe::put::elements_of` meets its contract: entry i is the element of byte i. Assumes nothing.
use Rattle.std.proofs.Common.{rules, ◌∙◌}
use Rattle.rijndael.specs.Element.{element}
use Rattle.gf2.proofs.Arrays.{mapped_table}
use Rattle.togasipe.proofs.Eight.{tab-elements}
use Rattle.togasipe.proofs.put.elements_of.Goals as goal

pub returns : goal.returns
returns c = mapped_table _ _ element (λ x y q called. search rules) 0 8 c.map.ensures.items ∙ tab-elements 8 c.args.bytes (search rules)
