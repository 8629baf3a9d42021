-- `endian::read_128` meets its contract: two words are the limbs of the 16 bytes' number. Assumes nothing.
use Rattle.std.proofs.Common.{◌≡◌, ◌∙◌, refl, ap, ap₂, arith, ◌+◌, ◌-◌, length, length-drop, take, drop, take_all, get_or-drop, Ok}
use Rattle.words.specs.Limbs.{limbs}
use Rattle.words.proofs.Value.{pair}
use Rattle.answers.specs.Answer.{mapped}
use Rattle.answers.specs.Lent.{word_of, Bytes}
use Rattle.endian.proofs.Readers.{read_value, read_tells}
use Rattle.endian.proofs.Limbs.{limbs-word_of}
use Rattle.endian.proofs.read_128.Goals as goal

pub returns : goal.returns
returns c =
    let s = c.args.s.now in
    let byte : Bytes s = λ i. (c.type_inv.s i).fits in
    let more : Bytes (drop 8 s) = λ i. rw get_or-drop (byte (8 + i)) in
    let low = read_tells 8 s c.in_ok-low.ensures in
    let high = read_tells 8 (take (length s - 8) (drop 8 s)) c.in_ok-high.ensures in
    let rest : take (length s - 8) (drop 8 s) ≡ drop 8 s = take_all (length s - 8) (drop 8 s) (omega (arith, length-drop 8 s)) in
    ap Ok (ap₂ pair low.1 (high.1 ∙ ap (word_of 8) rest) ∙ limbs-word_of s byte more)
    ∙ ap (mapped limbs) (read_value 16 s (omega (arith, high.0, ap length rest, length-drop 8 s)) refl)
