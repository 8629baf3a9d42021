-- `fingerprint::fingerprint` meets its contract: after as many turns the fingerprint of as many words. Assumes nothing.
use Rattle.std.proofs.Common.{rules, refl}
use Rattle.std.proofs.lemmas.List.Sums.{fold_more}
use Rattle.fingerprint.specs.Print.{step, print_of}
use Rattle.fingerprint.proofs.fingerprint.Goals as goal

pub loop-word-init : goal.loop-word-init
unfolding print_of
loop-word-init c = refl

pub loop-word-preserved : goal.loop-word-preserved
unfolding print_of step
loop-word-preserved c = search (rules, fold_more)
