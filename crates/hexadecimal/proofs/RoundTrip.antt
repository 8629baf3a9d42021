-- A word written in 16 digits, and read again.
use Rattle.std.proofs.Common.{◌≡◌, sym, ◌∙◌, refl, true, List, length, ap, div-one, add-one, arith, lt-ltb, le-ltb, lit≤, shr-shr, ℕ, zero, suc, ◌+◌, ◌-◌, ◌*◌, ◌/◌, ◌%◌, ◌^◌, ◌≤◌, ◌<◌, get_or, Some}
use Rattle.std.proofs.Math.Nat.{div-eq_of_lt}
use Rattle.std.proofs.Math.Decide.{dec_lt}
use Rattle.gf2.proofs.Table.{length-tab, get_or-tab}
use Rattle.hexadecimal.specs.Hex.{digit_of, digits, number, hex_of, glyph_of, text_of, Hexadecimal}
use Rattle.hexadecimal.proofs.Digits.{digit_decimal, digit_lower, digits_more, number_more, hex_good}

-- a digit written is that digit
digit_glyph : (d : ℕ) → d < 16 → digit_of (glyph_of d) ≡ d
digit_glyph d h = go (dec_lt d 10)
  where
    go : Dec (d < 10) → digit_of (glyph_of d) ≡ d
    go (yes l) = simp (lt-ltb d 10 l) (digit_decimal (48 + d) (omega arith) (omega arith) ∙ omega arith)
    go (no n) = simp (le-ltb d 10 (omega arith)) (digit_lower (87 + d) (omega arith) (omega arith) ∙ omega arith)

none_digits : (s : List ℕ) → digits 0 s ≡ true
unfolding digits
none_digits s = refl

none_number : (s : List ℕ) → 0 ≡ number 0 s
unfolding number
none_number s = refl

module _ (n : ℕ) (h : n < 2 ^ 64) where
  length_text : length (text_of n) ≡ 16
  unfolding text_of
  length_text = length-tab 16 (λ i. glyph_of (n / 2 ^ (60 - 4 * i) % 16))

  digit_text : (k : ℕ) → k < 16 → n / 2 ^ (60 - 4 * k) % 16 ≡ digit_of (get_or (text_of n) k 0)
  unfolding text_of
  digit_text k l =
      sym (ap digit_of (get_or-tab 16 (λ i. glyph_of (n / 2 ^ (60 - 4 * i) % 16)) 0 k l) ∙ digit_glyph (n / 2 ^ (60 - 4 * k) % 16) (omega arith))

  -- the first k digits, read: all are digits, and they stand for the highest bits
  text_digits : (k : ℕ) → k ≤ 16 → digits k (text_of n) ≡ true
  text_digits zero l = none_digits (text_of n)
  text_digits (suc k) l =
      rw (sym (add-one k))
      (digits_more k (text_of n) (text_digits k (omega arith)) (omega (arith, digit_text k (omega arith))))

  text_number : (k : ℕ) → k ≤ 16 → n / 2 ^ (64 - 4 * k) ≡ number k (text_of n)
  text_number zero l = div-eq_of_lt h ∙ none_number (text_of n)
  text_number (suc k) l =
      let m = n / 2 ^ (60 - 4 * k) in
      let e : 60 - 4 * k + 4 ≡ 64 - 4 * k = omega arith in
      let f : 64 - 4 * suc k ≡ 60 - 4 * k = omega arith in
      let p : m / 16 ≡ number k (text_of n) = shr-shr n (60 - 4 * k) 4 ∙ ap (λ (x : ℕ). n / 2 ^ x) e ∙ text_number k (omega arith) in
      let w : m ≡ m / 16 * 16 + m % 16 = omega arith in
      ap (λ (x : ℕ). n / 2 ^ x) f ∙ w ∙ number_more k (text_of n) p (digit_text k (omega arith)) ∙ ap (λ (j : ℕ). number j (text_of n)) (add-one k)

  pub text_read : hex_of (text_of n) ≡ Some n
  text_read =
      hex_good (text_of n) (rw length_text (lit≤ tt)) (rw length_text (lit≤ tt)) (rw length_text (text_digits 16 (lit≤ tt)))
      ∙ ap Some (ap (λ (k : ℕ). number k (text_of n)) length_text ∙ sym (text_number 16 (lit≤ tt)) ∙ div-one n)

pub hexadecimal : Hexadecimal
hexadecimal = record { text_read = text_read }
