-- The table of cases, proved by computing; the square root at 64 bits by the field, of which it is the only root.
use mathlib.Core.Path.{◌≡◌, refl, sym}
use lib.Dec.{lit<}
use Rattle.gf2.specs.Poly.{coef, bin_rec, bin_go, cmul, spread}
use Rattle.gf2.specs.Bits.{tab}
use Rattle.gf2.specs.Linear.{apply}
use Rattle.gf2.specs.Residue.{red, rem, mul, sq, pow, inv, root}
use Rattle.spellings.specs.Lists.{find_images}
use Rattle.towers.specs.Level.{◌⊞◌, lo, hi, join}
use Rattle.towers.specs.Mul.{talpha, tmul}
use Rattle.towers.specs.Basis.{xi, monomial_image, out_images, out}
use Rattle.fields.proofs.Field64.{field64}
use Rattle.cases.specs.Cases.{Cases}

root_64 : root 64 0x1b 2 ≡ 0xffffffff0000000a
unfolding sq rem red spread cmul bin_rec bin_go
root_64 = sym (field64.only_root 2 0xffffffff0000000a (lit< tt) (lit< tt) refl)

pub cases : Cases
unfolding find_images tab inv pow tmul talpha lo hi join ◌⊞◌ out out_images monomial_image xi coef apply mul sq rem red spread cmul bin_rec bin_go
cases =
    record {
      product_57_83 = refl;
      product_57_13 = refl;
      product_80_80 = refl;
      one_fold_80_80 = refl;
      inverse_53 = refl;
      inverse_02 = refl;
      squaring = refl;
      scaling = refl;
      tower_02_squared = refl;
      tower_04_squared = refl;
      tower_10_squared = refl;
      tower_02_as_rijndael = refl;
      product_64 = refl;
      square_64 = refl;
      root_64 = root_64;
      square_128_low = refl;
      square_128_high = refl;
    }
