-- `endian::write_128` meets its contract: the bytes of the low limb, and then those of the high one. Assumes nothing.
use Rattle.std.proofs.Common.{rules}
use Rattle.endian.proofs.Limbs.{written-value}
use Rattle.endian.proofs.write_128.Goals as goal

pub returns-clause-bytes : goal.returns-clause-bytes
returns-clause-bytes c = written-value c.args.d.now c.args.v c.if-d-lt16.false (search rules) c.write_64.ensures.bytes c.write_64-2.ensures.bytes
