-- `rijndael::bytes::fold_tail` meets its contract: 0x1b is the sum of the four powers. Assumes nothing.
use Rattle.std.proofs.Common.{◌≡◌, ℕ, ◌+◌, ◌*◌, ◌%◌, ◌^◌, ◌<◌, ◌≤◌, sym, ap, ◌∙◌, ap₂, lit≤, shl_exact}
use Rattle.gf2.specs.Poly.{◌⊕◌, cmul}
use Rattle.gf2.proofs.Cmul.{cmul-one_r, cmul-xor_r, cmul-pow}
use Rattle.rijndael.proofs.bytes.fold_tail.Goals as goal

tail : (v : ℕ) → v < 2 ^ 12 → v * 2 ^ 4 % 2 ^ 16 ⊕ v * 2 ^ 3 % 2 ^ 16 ⊕ v * 2 ^ 1 % 2 ^ 16 ⊕ v ≡ cmul v 0x1b
tail v h =
    ap₂ ◌⊕◌ (ap₂ ◌⊕◌ (ap₂ ◌⊕◌ (times 4 (lit≤ tt)) (times 3 (lit≤ tt))) (times 1 (lit≤ tt))) (sym (cmul-one_r v))
    ∙ sym (cmul-xor_r v 0x1a 1 ∙ ap (λ (x : ℕ). x ⊕ cmul v 1) (cmul-xor_r v 0x18 2 ∙ ap (λ (x : ℕ). x ⊕ cmul v 2) (cmul-xor_r v 16 8)))
  where
    times : (k : ℕ) → 12 + k ≤ 16 → v * 2 ^ k % 2 ^ 16 ≡ cmul v (2 ^ k)
    times k hk = shl_exact 12 k 16 h hk ∙ sym (cmul-pow v k)

pub returns : goal.returns
returns c = tail c.args.v c.requires
