-- `frobenius::converting::matrix_applied` meets its contract: the quadword found for a byte map sends each byte where the map does. Assumes nothing.
use mathlib.Core.Path.{ap₂, ◌∙◌}
use lib.Dec.{lit<}
use borrow.Author.Rules.{rules}
use Rattle.spellings.specs.Quadword.{image}
use Rattle.spellings.specs.Lists.{eval}
use Rattle.spellings.proofs.Quadword.{quadword}
use Rattle.spellings.proofs.Coefficients.{eval_linear}
use Rattle.frobenius.specs.Elements.{bytes}
use Rattle.frobenius.proofs.converting.matrix_applied.Goals as goal

pub returns : goal.returns
returns c =
    let cs = bytes c.args.p.0 in
    c.apply.ensures ∙ ap₂ image c.to_matrix.ensures c.to_byte.ensures
    ∙ quadword.found (eval 8 0x1b cs) (eval_linear 8 0x1b (lit< tt) cs) c.args.x.0 (search rules)
