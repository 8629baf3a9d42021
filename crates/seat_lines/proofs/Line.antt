-- The line from its parts, as code has them: the places of the number, and the two pictures entry by entry.
use Rattle.std.proofs.Common.{◌≡◌, ◌∙◌, refl, List, [], ◌∷◌, ℕ, ◌+◌, ◌%◌, get_or}
use Rattle.gf2.specs.Bits.{tab}
use Rattle.coach.specs.Rows.{drawn}
use Rattle.seat_lines.specs.Line.{place_of, line_of}

-- the four higher places, the last one, and the eight entries of each picture
abbrev pub parts : ℕ → ℕ → ℕ → ℕ → ℕ → List ℕ → List ℕ → List ℕ
parts p q r s t b a =
    p ∷ q ∷ r ∷ s ∷ t ∷ 32 ∷ 32
    ∷ get_or b 0 0 ∷ get_or b 1 0 ∷ get_or b 2 0 ∷ get_or b 3 0 ∷ 32 ∷ get_or b 4 0 ∷ get_or b 5 0 ∷ get_or b 6 0 ∷ get_or b 7 0 ∷ 32 ∷ 32 ∷ 32
    ∷ get_or a 0 0 ∷ get_or a 1 0 ∷ get_or a 2 0 ∷ get_or a 3 0 ∷ 32 ∷ get_or a 4 0 ∷ get_or a 5 0 ∷ get_or a 6 0 ∷ get_or a 7 0 ∷ 10 ∷ []

whole : (n before after : ℕ)
    → parts (place_of n 10000) (place_of n 1000) (place_of n 100) (place_of n 10) (48 + n % 10) (drawn before) (drawn after) ≡ line_of n before after
unfolding drawn tab
whole n before after = refl

pub line_parts : (n before after : ℕ) {p q r s : ℕ} {b a : List ℕ}
    → p ≡ place_of n 10000 → q ≡ place_of n 1000 → r ≡ place_of n 100 → s ≡ place_of n 10 → b ≡ drawn before → a ≡ drawn after
    → parts p q r s (48 + n % 10) b a ≡ line_of n before after
line_parts n before after ep eq er es eb ea = (λ i. parts (ep i) (eq i) (er i) (es i) (48 + n % 10) (eb i) (ea i)) ∙ whole n before after
