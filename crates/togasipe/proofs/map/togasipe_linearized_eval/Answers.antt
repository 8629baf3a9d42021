-- `togasipe::map::togasipe_linearized_eval` meets its contract: the answer of the call below crosses as it is. Assumes nothing.
use Rattle.frobenius.proofs.Elements.{bytes-elements}
use Rattle.togasipe.proofs.map.togasipe_linearized_eval.Goals as goal

pub returns : goal.returns
returns c = cc (bytes-elements c.args.coefficients.now)
