-- THE TABLE OF CASES: document 01's starred rows, in its order, of the definitions that the contracts cite. `cases` of
-- proofs/Cases.antt proves it.
use Rattle.std.specs.Prelude.{◌≡◌, [], ◌∷◌, ◌%◌, ◌^◌}
use Rattle.gf2.specs.Poly.{cmul}
use Rattle.gf2.specs.Residue.{red, mul, sq, inv, root}
use Rattle.spellings.specs.Kinds.{Kind, find}
use Rattle.towers.specs.Mul.{tmul}
use Rattle.towers.specs.Basis.{out}
use Rattle.words.specs.Limbs.{value}

pub record Cases : Type 0 where
  -- bytes: products, and what one fold alone would give
  pub product_57_83 : mul 8 0x1b 0x57 0x83 ≡ 0xc1
  pub product_57_13 : mul 8 0x1b 0x57 0x13 ≡ 0xfe
  pub product_80_80 : mul 8 0x1b 0x80 0x80 ≡ 0x9a
  pub one_fold_80_80 : red 8 0x1b (cmul 0x80 0x80) % 2 ^ 8 ≡ 0xc0
  -- inverses
  pub inverse_53 : inv 8 0x1b 0x53 ≡ 0xca
  pub inverse_02 : inv 8 0x1b 0x02 ≡ 0x8d
  -- where squaring, and scaling by 02, send the eight single-bit bytes
  pub squaring : find Kind.Images (sq 8 0x1b) ≡ 0x01 ∷ 0x04 ∷ 0x10 ∷ 0x40 ∷ 0x1b ∷ 0x6c ∷ 0xab ∷ 0x9a ∷ []
  pub scaling : find Kind.Images (mul 8 0x1b 0x02) ≡ 0x02 ∷ 0x04 ∷ 0x08 ∷ 0x10 ∷ 0x20 ∷ 0x40 ∷ 0x80 ∷ 0x1b ∷ []
  -- tower bytes: X0, X1 and X2 squared, and X0 as a Rijndael byte
  pub tower_02_squared : tmul 3 0x02 0x02 ≡ 0x03
  pub tower_04_squared : tmul 3 0x04 0x04 ≡ 0x09
  pub tower_10_squared : tmul 3 0x10 0x10 ≡ 0x41
  pub tower_02_as_rijndael : out 0x02 ≡ 0xbc
  -- 64 bits: a product, a square, a square root
  pub product_64 : mul 64 0x1b 0x8000000000000000 2 ≡ 0x1b
  pub square_64 : sq 64 0x1b 0x8000000000000000 ≡ 0xc00000000000005a
  pub root_64 : root 64 0x1b 2 ≡ 0xffffffff0000000a
  -- 128 bits: two squares
  pub square_128_low : sq 128 0x87 (value record { low = 0; high = 1 }) ≡ value record { low = 0x87; high = 0 }
  pub square_128_high :
      sq 128 0x87 (value record { low = 0; high = 0x8000000000000000 }) ≡ value record { low = 0x1067; high = 0xc000000000000000 }
