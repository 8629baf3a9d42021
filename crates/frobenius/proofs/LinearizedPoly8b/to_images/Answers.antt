-- `frobenius::LinearizedPoly8b::to_images` meets its contract: entry b is the value at 2^b. Assumes nothing.
use Prim.Native.Nat.{◌^◌}
use borrow.Author.Rules.{rules}
use Rattle.gf2.proofs.Bits.{shl_one}
use Rattle.spellings.specs.Lists.{find_images, eval}
use Rattle.frobenius.specs.Elements.{bytes}
use Rattle.gf2.proofs.Arrays.{made_table}
use Rattle.frobenius.proofs.LinearizedPoly8b.to_images.Goals as goal

pub returns : goal.returns
unfolding find_images
returns c =
    made_table _ _ _ (λ b. eval 8 0x1b (bytes c.args.self.0) (2 ^ b))
    (λ b y q l e. (search (rules, shl_one 8 b l), search rules)) c.from_fn.ensures.items
