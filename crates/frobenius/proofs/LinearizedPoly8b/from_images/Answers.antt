-- `frobenius::LinearizedPoly8b::from_images` meets its contract: entry j is coefficient j. Assumes nothing.
use mathlib.Core.Path.{sym, ap, ◌∙◌}
use borrow.Author.Rules.{rules}
use lib.ListN.{get_or}
use Rattle.gf2.proofs.Table.{map-tab}
use Rattle.spellings.specs.Lists.{times, dual, dual8}
use Rattle.spellings.proofs.Coefficients.{find_images-coefficients}
use Rattle.rijndael.specs.Element.{element}
use Rattle.frobenius.specs.Elements.{elements}
use Rattle.gf2.proofs.Arrays.{made_table}
use Rattle.frobenius.proofs.LinearizedPoly8b.from_images.Goals as goal

pub returns : goal.returns
returns c =
    made_table _ _ _ (λ j. element (times 8 0x1b (λ b. get_or c.args.images b 0) (dual 8 0x1b dual8) j))
    (λ i y q l e. (search rules, search rules)) c.from_fn.ensures.items
    ∙ sym (map-tab element 8 _) ∙ ap elements (find_images-coefficients 8 0x1b dual8 _)
