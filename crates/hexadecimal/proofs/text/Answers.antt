-- `hexadecimal::text` meets its contract: each call gives the digit of its place. Assumes nothing.
use Rattle.std.proofs.Common.{rules}
use Rattle.hexadecimal.specs.Hex.{text_of}
use Rattle.gf2.proofs.Arrays.{made_table}
use Rattle.hexadecimal.proofs.text.Goals as goal

pub returns : goal.returns
unfolding text_of
returns c = made_table _ _ 16 _ (λ i y q l called. search rules) c.from_fn.ensures.items
