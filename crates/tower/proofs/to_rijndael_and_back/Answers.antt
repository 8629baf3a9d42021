-- `tower::to_rijndael_and_back` meets its contract: `into_out` at a byte. Assumes nothing.
use mathlib.Core.Path.{ap, ◌∙◌}
use borrow.Author.Rules.{rules}
use Rattle.towers.specs.Basis.{into}
use Rattle.towers.proofs.Basis.{into_out}
use Rattle.tower.proofs.to_rijndael_and_back.Goals as goal

pub returns : goal.returns
returns c =
    let e = c.from-2.ensures ∙ ap into c.from.ensures ∙ into_out c.args.x.0 (search rules) in
    λ i. record { 0 = e i }
