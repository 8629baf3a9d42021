-- `hexadecimal::parse_hex` meets its contract: after i turns the first i bytes are digits, and the number is theirs. Assumes nothing.
use Rattle.std.proofs.Common.{refl, rules, sym, ◌∙◌, arith, ◌<◌, ◌^◌, ◌*◌, ◌+◌}
use Rattle.hexadecimal.specs.Hex.{digits, number as number_of}
use Rattle.hexadecimal.proofs.Digits.{digits_more, number_more, number_lt, fits, hex_bad, read_is, read_bad}
use Rattle.hexadecimal.proofs.parse_hex.Goals as goal

pub loop-c-init : goal.loop-c-init
unfolding digits number_of
loop-c-init c = (refl, refl, search rules)

pub returns-in_err-d : goal.returns-in_err-d
returns-in_err-d c =
    c.from_residual.ensures ∙ sym (hex_bad c.args.text.now c.loop-c.c-index c.loop-c-test.true (read_bad _ c.in_err-d.ensures))

pub overflow_mul-number : goal.overflow_mul-number
overflow_mul-number c =
    let l = c.loop-c in
    let b : l.number * 16 + 0 < 2 ^ 64 = fits (l.c-index + 1) (omega arith) (number_lt l.c-index l.invariant.2 (omega arith)) in
    omega arith

pub overflow_add-number : goal.overflow_add-number
overflow_add-number c =
    let l = c.loop-c in
    let b : l.number * 16 + c.in_ok-d.d < 2 ^ 64 = fits (l.c-index + 1) (omega arith) (number_lt l.c-index l.invariant.2 (read_is _ c.in_ok-d.ensures).1) in
    omega arith

pub loop-c-preserved : goal.loop-c-preserved
loop-c-preserved c =
    let l = c.loop-c in
    let d = read_is _ c.in_ok-d.ensures in
    (digits_more l.c-index _ l.invariant.0 (rw d.0 at d.1), number_more l.c-index _ l.invariant.1 d.0, number_lt l.c-index l.invariant.2 d.1)
