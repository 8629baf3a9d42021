-- THE THREE SPELLINGS, proved: each kind is a spelling in the sense of Spelling.antt, and what the statement asks follows
-- from that notion once, for any two kinds.
use mathlib.Core.Path.{◌≡◌, ap, ◌∙◌}
use lib.Dec.{lit<}
use Rattle.spellings.specs.Maps.{Linear}
use Rattle.spellings.specs.Lists.{dual8}
use Rattle.spellings.specs.Kinds.{Kind, Value, Valid, meaning, find, turn}
use Rattle.spellings.specs.Kinds.Kind.{Quadword, Images, Coefficients}
use Rattle.spellings.specs.Theorem.{ThreeSpellings, Converts}
use Rattle.spellings.proofs.Spelling.{Spelling, only, find-same, same-find, convert_valid, convert-same, convert_back}
use Rattle.spellings.proofs.Compose.{compose-same}
use Rattle.spellings.proofs.Linear.{Finder, spelling, linear_closed}
use Rattle.spellings.proofs.Images.{images_finder}
use Rattle.spellings.proofs.Quadword.{quadword_finder}
use Rattle.spellings.proofs.Coefficients.{coefficients_finder}
use Rattle.spellings.proofs.Dual8.{there8, back8}

pub finder : (k : Kind) → Finder 8 (Value k) (Valid k) (meaning k) (find k)
finder Quadword = quadword_finder
finder Images = images_finder 8
finder Coefficients = coefficients_finder 8 0x1b (lit< tt) dual8 there8 back8

abbrev pub kind : Kind → Spelling 8 (Linear 8)
kind k = spelling (finder k)

pub three_spellings : ThreeSpellings
three_spellings =
    record {
      one = λ k f m. record { valid = (kind k).valid f m; same = (kind k).found f m; only = only (kind k) f m };
      means = λ k. (kind k).means;
      turned = λ k l. convert_valid (kind k) (kind l);
      keeps = λ k l. convert-same (kind k) (kind l);
      back = λ k l. convert_back (kind k) (kind l);
      agree = λ k f g mf mg. (find-same (kind k) f g mf mg, same-find (kind k) f g mf mg);
      equal = λ k v w hv hw. ((kind k).unique v w hv hw, λ e a l. ap (λ (u : Value k). meaning k u a) e);
      composed = λ k v w hv hw. compose-same (linear_closed 8) (kind k) v w hv hw;
    }

-- a conversion that answers `turn` is one in the theorem's sense
pub converts : (k l : Kind) (v : Value k) → Valid k v → {w : Value l} → w ≡ turn k l v → Converts k l v w
converts k l v h e =
    rw e
    record {
      one = three_spellings.one l (meaning k v) (three_spellings.means k v h);
      back = three_spellings.back k l v h;
    }

-- one after the other, two of them give back what we started with
pub there_and_back : (k l : Kind) (v : Value k) → Valid k v → {w : Value l} {u : Value k} → w ≡ turn k l v → u ≡ turn l k w → u ≡ v
there_and_back k l v h e f = f ∙ ap (turn l k) e ∙ three_spellings.back k l v h
