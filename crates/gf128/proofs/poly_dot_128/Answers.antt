-- `gf128::poly_dot_128` meets its contract: after as many turns the two halves are those of the sum of as many products.
-- Assumes nothing.
use Rattle.std.proofs.Common.{rules, arith, ap, ap₂, ◌∙◌, ◌≡◌, ◌/◌, ℕ, length, Ok, eq-eqb}
use Rattle.std.proofs.lemmas.List.{length_push}
use Rattle.std.proofs.lemmas.Slice.Zip.{zip_turn, zip_end}
use Rattle.gf2.specs.Poly.{xsum}
use Rattle.gf2.specs.Residue.{dot}
use Rattle.words.specs.Limbs.{limbs}
use Rattle.words.proofs.Value.{pair}
use Rattle.gf128.specs.Answers.{element}
use Rattle.gf128.proofs.Sums.{element-pair, turn_low, turn_high, rem-products}
use Rattle.gf128.proofs.poly_dot_128.Goals as goal

pub loop-x-init : goal.loop-x-init
unfolding xsum
loop-x-init c = record {
  low = ap₂ pair c.default-low.ensures.0 c.default-low.ensures.1;
  high = ap₂ pair c.default-high.ensures.0 c.default-high.ensures.1;
}

pub loop-x-preserved : goal.loop-x-preserved
loop-x-preserved c =
    let l = c.loop-x in
    let a = c.args.a.now in
    let b = c.args.b.now in
    let n = length l.yielded in
    let xs = c.as_chunks in
    let ys = c.as_chunks-2 in
    let t = zip_turn xs.result.0.now ys.result.0.now l.yielded c.into_iter-x-iterator.result _ c.next.new.self _ (search rules) (search rules) l.yielded_by _ c.in-Some.is c.next.ensures.steps in
    let x = c.element.ensures ∙ element-pair a xs.ensures.front xs.ensures.front_len n t.0 (t.2 _) in
    let y = c.element-in-loop-x.ensures ∙ element-pair b ys.ensures.front ys.ensures.front_len n t.1 (t.3 _) in
    let p = c.wide_mul_128-product.ensures in
    rw length_push
    record {
      low = c.bitxor-low.ensures ∙ turn_low a b n _ _ x y l.invariant.low p.low;
      high = c.bitxor-high.ensures ∙ turn_high a b n _ _ x y l.invariant.high p.high;
    }

pub returns : goal.returns
returns c =
    let l = c.loop-x in
    let a = c.args.a.now in
    let b = c.args.b.now in
    let xs = c.as_chunks in
    let ys = c.as_chunks-2 in
    let z = zip_end xs.result.0.now ys.result.0.now l.yielded c.into_iter-x-iterator.result _ c.next.new.self _ (search rules) (search rules) l.yielded_by c.in-None.is c.next.ensures.steps in
    let n : length l.yielded ≡ length a / 2 = omega arith in
    simp (eq-eqb _ _ c.if-a-b.false, eq-eqb _ _ c.if-a-ne0.false)
    (ap Ok (c.reduce_128.ensures
    ∙ rem-products a b (λ k. (c.type_inv.a k).fits) (λ k. (c.type_inv.b k).fits) (length l.yielded) l.invariant.low l.invariant.high
    ∙ ap (λ (k : ℕ). limbs (dot 128 0x87 k (element a) (element b))) n))
