-- `matrix::ByteMatrix::apply` meets its contract: the parities of the masked rows, gathered, are the image. Assumes nothing.
use mathlib.Core.Path.{ap, ◌∙◌}
use Prim.Native.Nat.{ℕ, ◌/◌, ◌^◌}
use borrow.Author.Rules.{rules}
use Rattle.words.specs.Words.{rev}
use Rattle.matrix.proofs.Apply.{gather-parities}
use Rattle.matrix.proofs.ByteMatrix.apply.Goals as goal

pub returns : goal.returns
returns c =
    let a = c.args in
    c.reverse_bits_8.ensures
    ∙ ap (λ (w : ℕ). rev 8 (w / 2 ^ 56)) c.wrapping_mul_64.ensures
    ∙ gather-parities a.self.0 a.byte (search rules) (search rules)
