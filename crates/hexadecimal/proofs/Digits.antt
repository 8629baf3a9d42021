-- Digits and numbers in hexadecimal: what a digit stands for, by the place of its byte, and a turn of the loop that reads them.
use Rattle.std.proofs.Common.{◌≡◌, ◌∙◌, ap, Bool, ap₂, arith, add-one, le-leb, lt-ltb, le-ltb, pow-add, true, false, List, ltb, length, ◌&&◌, ℕ, zero, suc, ◌+◌, ◌-◌, ◌*◌, ◌^◌, ◌≤◌, ◌<◌, lt_of_lt_of_le, pow_mono, get_or, Some, None}
use Rattle.std.proofs.Math.Bool.{and-false}
use Rattle.std.proofs.Math.Decide.{ℕ_discrete, dec_lt}
use Rattle.std.proofs.lemmas.Bool.{lt-leb}
use Rattle.gf2.specs.Bits.{pick}
use Rattle.hexadecimal.specs.Hex.{digit_of, read_digit, digits, number, between, hex_of}

module _ (c : ℕ) where
  within : (low high : ℕ) → low ≤ c → c ≤ high → between low high c ≡ true
  within low high l h = simp (le-leb low c l, le-leb c high h)

  under : (low high : ℕ) → c < low → between low high c ≡ false
  under low high h = simp (lt-leb low c h)

  over : (low high : ℕ) → low ≤ c → high < c → between low high c ≡ false
  over low high l h = simp (le-leb low c l, lt-leb c high h)

  -- nothing below '0', between '9' and 'A', between 'F' and 'a', or above 'f' is a digit
  pub digit_none : c < 48 → digit_of c ≡ 16
  unfolding digit_of
  digit_none h = simp (under 48 57 h, under 97 102 (omega arith), under 65 70 (omega arith))

  pub digit_decimal : 48 ≤ c → c ≤ 57 → digit_of c ≡ c - 48
  unfolding digit_of
  digit_decimal l h = simp (within 48 57 l h)

  pub digit_middle : 57 < c → c < 65 → digit_of c ≡ 16
  unfolding digit_of
  digit_middle l h = simp (over 48 57 (omega arith) l, under 97 102 (omega arith), under 65 70 h)

  pub digit_upper : 65 ≤ c → c ≤ 70 → digit_of c ≡ c - 55
  unfolding digit_of
  digit_upper l h = simp (over 48 57 (omega arith) (omega arith), under 97 102 (omega arith), within 65 70 l h)

  pub digit_between : 70 < c → c < 97 → digit_of c ≡ 16
  unfolding digit_of
  digit_between l h = simp (over 48 57 (omega arith) (omega arith), under 97 102 h, over 65 70 (omega arith) l)

  pub digit_lower : 97 ≤ c → c ≤ 102 → digit_of c ≡ c - 87
  unfolding digit_of
  digit_lower l h = simp (over 48 57 (omega arith) (omega arith), within 97 102 l h)

  pub digit_past : 102 < c → digit_of c ≡ 16
  unfolding digit_of
  digit_past h = simp (over 48 57 (omega arith) (omega arith), over 97 102 (omega arith) h, over 65 70 (omega arith) (omega arith))

  -- a digit read is the byte's, and a byte that is not read is no digit
  pub read_is : {d : ℕ} → Some d ≡ read_digit c → (d ≡ digit_of c) × (d < 16)
  read_is {d} = go (dec_lt (digit_of c) 16)
    where
      go : Dec (digit_of c < 16) → Some d ≡ read_digit c → (d ≡ digit_of c) × (d < 16)
      go (yes h) e =
          let f : Some d ≡ Some (digit_of c) = e ∙ ap (λ (t : Bool). pick t (Some (digit_of c)) None) (lt-ltb (digit_of c) 16 h) in
          let g : d ≡ digit_of c = cc in
          (g, omega arith)
      go (no n) e =
          let f : Some d ≡ None = e ∙ ap (λ (t : Bool). pick t (Some (digit_of c)) None) (le-ltb (digit_of c) 16 (omega arith)) in
          cc

  pub read_bad : None ≡ read_digit c → 16 ≤ digit_of c
  read_bad = go (dec_lt (digit_of c) 16)
    where
      go : Dec (digit_of c < 16) → None ≡ read_digit c → 16 ≤ digit_of c
      go (yes h) e =
          let f : None ≡ Some (digit_of c) = e ∙ ap (λ (t : Bool). pick t (Some (digit_of c)) None) (lt-ltb (digit_of c) 16 h) in
          absurd cc
      go (no n) e = omega arith

-- ---- one digit more

pub digits_more : (k : ℕ) (s : List ℕ) → digits k s ≡ true → digit_of (get_or s k 0) < 16 → digits (k + 1) s ≡ true
unfolding digits
digits_more k s e h = rw add-one (simp (e, lt-ltb (digit_of (get_or s k 0)) 16 h))

pub number_more : (k : ℕ) (s : List ℕ) {v d : ℕ} → v ≡ number k s → d ≡ digit_of (get_or s k 0) → v * 16 + d ≡ number (k + 1) s
unfolding number
number_more k s p q = rw add-one (ap₂ (λ (x y : ℕ). x * 16 + y) p q)

-- a byte that is no digit spoils every longer text
pub digits_bad : (k n : ℕ) (s : List ℕ) → k < n → 16 ≤ digit_of (get_or s k 0) → digits n s ≡ false
unfolding digits
digits_bad k zero s h b = absurd (omega arith)
digits_bad k (suc n) s h b = go (digits_bad k n s) (ℕ_discrete k n)
  where
    go : (k < n → 16 ≤ digit_of (get_or s k 0) → digits n s ≡ false) → Dec (k ≡ n) → (digits n s && ltb (digit_of (get_or s n 0)) 16) ≡ false
    go ih (yes e) = simp (← e, le-ltb (digit_of (get_or s k 0)) 16 b) (and-false (digits k s))
    go ih (no ne) = simp (ih (omega arith) b)

pub number_lt : (k : ℕ) {v d : ℕ} → v < 2 ^ (4 * k) → d < 16 → v * 16 + d < 2 ^ (4 * (k + 1))
number_lt k {v} {d} h l =
    let e : 4 * (k + 1) ≡ 4 * k + 4 = omega arith in
    rw (e, pow-add 2 (4 * k) 4) (omega arith)

-- k digits more than k fit a word while k is at most 16
pub fits : (k : ℕ) {v : ℕ} → k ≤ 16 → v < 2 ^ (4 * k) → v < 2 ^ 64
fits k h l = lt_of_lt_of_le l (pow_mono {i = 4 * k} {j = 64} (omega arith))

-- ---- the whole text

module _ (s : List ℕ) where
  pub hex_empty : length s < 1 → hex_of s ≡ None
  hex_empty h = simp (under (length s) 1 16 h)

  pub hex_long : 16 < length s → hex_of s ≡ None
  hex_long h = simp (over (length s) 1 16 (omega arith) h)

  pub hex_bad : (k : ℕ) → k < length s → 16 ≤ digit_of (get_or s k 0) → hex_of s ≡ None
  hex_bad k h b = simp (digits_bad k (length s) s h b, and-false (between 1 16 (length s)))

  pub hex_good : 1 ≤ length s → length s ≤ 16 → digits (length s) s ≡ true → hex_of s ≡ Some (number (length s) s)
  hex_good l h e = simp (within (length s) 1 16 l h, e)
