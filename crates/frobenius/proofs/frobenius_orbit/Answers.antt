-- `frobenius::frobenius_orbit` meets its contract: entry k squares k times. Assumes nothing.
use borrow.Author.Rules.{rules}
use Rattle.frobenius.proofs.Frobenius.{frobenius-image}
use Rattle.gf2.proofs.Arrays.{made_table}
use Rattle.frobenius.proofs.frobenius_orbit.Goals as goal

pub returns : goal.returns
returns c = made_table _ _ _ _ (λ i y q l e. (search (rules, frobenius-image), search rules)) c.from_fn.ensures.items
