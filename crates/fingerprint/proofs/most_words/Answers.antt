-- `fingerprint::most_words` meets its contract: the code's constant is the definition's. Assumes nothing.
use Rattle.std.proofs.Common.{refl}
use Rattle.fingerprint.specs.Print.{limit}
use Rattle.fingerprint.proofs.most_words.Goals as goal

pub returns : goal.returns
unfolding limit
returns c = refl
