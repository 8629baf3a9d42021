-- `frobenius::coefficient` meets its contract: the fold adds a term for each image. Assumes nothing.
use Rattle.std.proofs.Common.{rules, ◌∙◌, refl}
use Prim.Native.Nat.{ℕ}
use Rattle.std.proofs.lemmas.Iterator.{YieldsList-from_slice, YieldsList-from_zip}
use Rattle.std.proofs.lemmas.Iterator.Consumers.{fold_from_yields_List}
use Rattle.gf2.specs.Poly.{◌⊕◌}
use Rattle.gf2.specs.Residue.{mul, frob}
use Rattle.spellings.specs.Lists.{times, dual8}
use Rattle.frobenius.proofs.Chains.{folded_sum}
use Rattle.frobenius.proofs.Frobenius.{frobenius-image}
use Rattle.frobenius.proofs.coefficient.Goals as goal

abbrev step : ℕ → ℕ → ℕ × ℕ → ℕ
step j a p = a ⊕ mul 8 0x1b p.0 (frob 8 0x1b j p.1)

pub returns : goal.returns
unfolding times dual8
returns c =
    fold_from_yields_List _ (step c.args.j) _ _ c.fold.ensures.ran
    (YieldsList-from_zip (YieldsList-from_slice c.args.images cc) (YieldsList-from_slice dual8 cc))
    (λ a x b q k. (search rules, search (rules, frobenius-image)))
    ∙ folded_sum (λ (a : ℕ). a) (step c.args.j) _ (λ s x y. refl) 0 0 c.args.images dual8 8 0 (search rules) refl
