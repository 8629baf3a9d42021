-- The readers and writers of 64 and 128 bits: refusal 4 is exact, and what was written is read again.
use Rattle.std.specs.Prelude.{◌≡◌, List, ℕ, ◌^◌, ◌≤◌, ◌<◌, length, Ok}
use Rattle.words.specs.declared.Limbs.{Limbs}
use Rattle.words.specs.Limbs.{value, limbs}
use Rattle.answers.specs.Answer.{Exactly, Accepts, mapped}
use Rattle.answers.specs.Lent.{word_of, read_of, written, Lent}
use Rattle.answers.specs.declared.Refusal.TheVariants.{Short}

pub record RefusalsLent : Type 0 where
  -- at 8 and at 16 bytes
  pub at_64 : Lent 8
  pub at_128 : Lent 16
  -- the element of 16 bytes, as two limbs
  pub read_128_refuses : (s : List ℕ) → Exactly Short (length s < 16) (mapped limbs (read_of 16 s))
  pub read_128_accepts : (s : List ℕ) → Accepts (16 ≤ length s) (limbs (word_of 16 s)) (mapped limbs (read_of 16 s))
  pub read_128_written : (d : List ℕ) (l : Limbs) → 16 ≤ length d → l.low < 2 ^ 64 → l.high < 2 ^ 64
      → mapped limbs (read_of 16 (written 16 d (value l))) ≡ Ok l
