-- `^` of two `Limbs` meets its contract: a sum goes limb by limb. Assumes nothing.
use Rattle.std.proofs.Common.{rules, sym}
use Rattle.words.proofs.Value.{xor-limbs}
use Rattle.words.proofs.LimbsBitXor.bitxor.Goals as goal

pub returns : goal.returns
returns c = sym (xor-limbs c.args.self c.args.rhs (search rules) (search rules) (search rules) (search rules))
