-- `togasipe::map::togasipe_linearized_from_images` meets its contract: the answer of the call below crosses as it is. Assumes nothing.
use Rattle.spellings.specs.Kinds.{Images, Coefficients, turn}
use Rattle.frobenius.proofs.Elements.{bytes-elements}
use Rattle.togasipe.proofs.map.togasipe_linearized_from_images.Goals as goal

pub returns : goal.returns
returns c = cc (bytes-elements (turn Images Coefficients c.args.images.now))
