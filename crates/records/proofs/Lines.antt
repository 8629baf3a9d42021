-- The words of a line, one after another.
use Rattle.std.proofs.Common.{◌≡◌, ◌∙◌, ℕ, zero, suc, ◌+◌, ◌-◌, ◌*◌, ◌<◌, true, false, ◌&&◌, List, add-one, arith, take, drop, sym, ap, Option, is_some, Some, None}
use Rattle.std.proofs.Math.Bool.{and-false}
use Rattle.std.proofs.Math.Decide.{ℕ_discrete}
use Rattle.gf2.proofs.Table.{Filled, filled_all}
use Rattle.hexadecimal.specs.Hex.{hex_of}
use Rattle.records.specs.Lines.{word_at, value, numbers, line_of}

module _ (s : List ℕ) where
  -- a part as code has it, and what it is read as
  pub part_read : (k : ℕ) {r w : Option ℕ} → r ≡ hex_of (take (17 * k + 16 - 17 * k) (drop (17 * k) s)) → r ≡ w → word_at s k ≡ w
  unfolding word_at
  part_read k p q =
      let e : 17 * k + 16 - 17 * k ≡ 16 = omega arith in
      sym (p ∙ ap (λ (n : ℕ). hex_of (take n (drop (17 * k) s))) e) ∙ q

  -- one number more
  pub numbers_more : (k : ℕ) {v : ℕ} → numbers k s ≡ true → word_at s k ≡ Some v → numbers (k + 1) s ≡ true
  unfolding numbers
  numbers_more k e w = rw add-one (simp (e, w))

  -- a word that is none spoils every longer line
  pub numbers_bad : (k n : ℕ) → k < n → word_at s k ≡ None → numbers n s ≡ false
  unfolding numbers
  numbers_bad k zero h w = absurd (omega arith)
  numbers_bad k (suc n) h w = go (numbers_bad k n) (ℕ_discrete k n)
    where
      go : (k < n → word_at s k ≡ None → numbers n s ≡ false) → Dec (k ≡ n) → (numbers n s && is_some (word_at s n)) ≡ false
      go ih (yes e) = simp (← e, w) (and-false (numbers k s))
      go ih (no ne) = simp (ih (omega arith) w)

  pub line_bad : (k : ℕ) → k < 8 → word_at s k ≡ None → None ≡ line_of s
  line_bad k h w = simp (numbers_bad k 8 h w)

  pub line_good : {x : List ℕ} → numbers 8 s ≡ true → Filled 8 (λ i. value (word_at s i)) 0 x 8 → Some (record { x = x }) ≡ line_of s
  line_good e f = simp (e, filled_all f)
