-- `gf64::poly_dot_64` meets its contract: after as many turns the limbs hold the sum of as many products. Assumes nothing.
use Rattle.std.proofs.Common.{rules, arith, ◌≡◌, ap, ap₂, ◌∙◌, length, get_or, Ok, eq-eqb}
use Rattle.std.proofs.lemmas.List.{length_push}
use Rattle.std.proofs.lemmas.Slice.Zip.{zip_turn, zip_end}
use Rattle.gf2.specs.Poly.{cmul}
use Rattle.words.specs.Limbs.{limbs}
use Rattle.words.proofs.Value.{pair}
use Rattle.gf64.proofs.Dot.{products_none, products_turn, products-rem}
use Rattle.gf64.proofs.poly_dot_64.Goals as goal

pub loop-x-init : goal.loop-x-init
loop-x-init c = ap₂ pair c.default-sum.ensures.0 c.default-sum.ensures.1 ∙ products_none _ _

pub loop-x-preserved : goal.loop-x-preserved
loop-x-preserved c =
    let l = c.loop-x in
    let a = c.args.a.now in
    let b = c.args.b.now in
    let t = zip_turn a b l.yielded c.into_iter-x-iterator.result _ c.next.new.self _ (search rules) (search rules) l.yielded_by _ c.in-Some.is c.next.ensures.steps in
    rw length_push
    (c.bitxor-sum.ensures
    ∙ products_turn (λ k. get_or a k 0) (λ k. get_or b k 0) (length l.yielded) l.invariant
    (c.clmul_64x64-product.ensures ∙ ap₂ (λ x y. limbs (cmul x y)) (t.2 0) (t.3 0)))

pub returns : goal.returns
returns c =
    let l = c.loop-x in
    let a = c.args.a.now in
    let b = c.args.b.now in
    let z = zip_end a b l.yielded c.into_iter-x-iterator.result _ c.next.new.self _ (search rules) (search rules) l.yielded_by c.in-None.is c.next.ensures.steps in
    let e : length l.yielded ≡ length a = omega arith in
    simp (eq-eqb _ _ c.if-a-b.false)
    (ap Ok (c.reduce_64.ensures
    ∙ products-rem (λ k. get_or a k 0) (λ k. get_or b k 0) (length a)
    (λ k. (c.type_inv.a k).fits) (λ k. (c.type_inv.b k).fits) (rw e at l.invariant)))
