-- `frobenius::LinearizedPoly8b::eval` meets its contract: the fold adds a term for each coefficient. Assumes nothing.
use Rattle.std.proofs.Common.{List, rules, ◌∙◌, ap, ap₂, sym, refl}
use lib.ListN.{get_or}
use Rattle.std.proofs.lemmas.Iterator.{YieldsList-from_slice, YieldsList-from_zip}
use Rattle.std.proofs.lemmas.Iterator.Consumers.{fold_from_yields_List}
use Rattle.gf2.specs.Poly.{◌⊕◌}
use Rattle.gf2.specs.Residue.{mul, frob}
use Rattle.gf2.proofs.Sum.{xsum_below}
use Rattle.gf2.proofs.Table.{get_or-tab}
use Rattle.spellings.specs.Lists.{eval}
use Rattle.rijndael.specs.Element.{element}
use Rattle.rijndael.specs.declared.Rijndael8b.{Rijndael8b}
use Rattle.frobenius.proofs.Elements.{bytes_at}
use Rattle.frobenius.proofs.Chains.{folded_sum}
use Rattle.frobenius.proofs.LinearizedPoly8b.eval.Goals as goal

abbrev step : Rijndael8b → Rijndael8b × Rijndael8b → Rijndael8b
step a p = element (a.0 ⊕ mul 8 0x1b p.0.0 p.1.0)

pub returns : goal.returns
unfolding eval
returns c =
    let o = c.frobenius_orbit-orbit in
    ap (λ (e : Rijndael8b). e.0) (fold_from_yields_List _ step _ _ c.fold.ensures.ran
    (YieldsList-from_zip (YieldsList-from_slice c.args.self.0 cc) (YieldsList-from_slice o.result cc))
    (λ a x b q k. (search rules, search rules)))
    ∙ folded_sum (λ (e : Rijndael8b). e.0) step _ (λ s x y. refl) (element 0) (element 0) c.args.self.0 o.result 8 (element 0) (search rules) (search rules)
    ∙ xsum_below 8 (λ j h. ap₂ (mul 8 0x1b) (sym (bytes_at c.args.self.0 j)) (ap (λ (l : List Rijndael8b). (get_or l j (element 0)).0) o.ensures ∙ ap (λ (e : Rijndael8b). e.0) (get_or-tab 8 (λ k. element (frob 8 0x1b k c.args.x.0)) (element 0) j h)))
