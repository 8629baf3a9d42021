-- `reduce::reduce_128` meets its contract: the two folds, a limb at a time. Assumes nothing.
use mathlib.Core.Path.{sym, ap, ap₂, ◌∙◌}
use Prim.Native.Nat.{ℕ, ◌+◌, ◌*◌, ◌%◌, ◌^◌, ◌<◌}
use native.Mathlib.Omega.{arith}
use lib.Dec.{lit≤, lit<}
use Rattle.gf2.specs.Poly.{◌⊕◌, cmul}
use Rattle.words.specs.Limbs.{value}
use Rattle.words.proofs.Value.{pair, limbs-small}
use Rattle.gf2.proofs.Rem.{rem_lt}
use Rattle.reduce.proofs.Words.{rem-low_folded, rem-high_folded}
use Rattle.reduce.proofs.reduce_128.Goals as goal

pub returns : goal.returns
returns c =
    let a = c.args in
    let h₀ = a.high.low in
    let h₁ = a.high.high in
    let a₀ = a.low.low in
    let a₁ = a.low.high in
    let l₀ : h₀ < 2 ^ 64 = omega arith in
    let l₁ : h₁ < 2 ^ 64 = omega arith in
    let m₀ : a₀ < 2 ^ 64 = omega arith in
    let m₁ : a₁ < 2 ^ 64 = omega arith in
    ap₂ pair
    (ap₂ (λ (x y : ℕ). a₀ ⊕ x ⊕ y) c.folded.ensures (c.folded-2.ensures ∙ ap (λ (x : ℕ). cmul x 0x87 % 2 ^ 64) c.spilled-spill.ensures)
    ∙ sym (rem-low_folded 64 7 0x87 (lit< tt) (lit≤ tt) h₁ h₀ l₁ l₀ (lit< tt) a₁ a₀ m₁ m₀))
    (ap₂ (λ (x y : ℕ). a₁ ⊕ x ⊕ y) c.folded-3.ensures c.spilled-carried.ensures
    ∙ sym (rem-high_folded 64 7 0x87 (lit< tt) (lit≤ tt) h₁ h₀ l₁ l₀ (lit< tt) a₁ a₀ m₁ m₀))
    ∙ sym (limbs-small _ (rem_lt 128 0x87 (lit< tt) (value a.high * 2 ^ 128 + value a.low)))
