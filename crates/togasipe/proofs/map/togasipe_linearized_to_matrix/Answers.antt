-- `togasipe::map::togasipe_linearized_to_matrix` meets its contract: the answer of the call below crosses as it is. Assumes nothing.
use Rattle.frobenius.proofs.Elements.{bytes-elements}
use Rattle.togasipe.proofs.map.togasipe_linearized_to_matrix.Goals as goal

pub returns : goal.returns
returns c = cc (bytes-elements c.args.coefficients.now)
