-- Numbers in lent bytes, low byte first, at any number of bytes: what a reader and a writer answer, and what a writer leaves.
use Rattle.std.specs.Prelude.{◌≡◌, List, [], ◌∷◌, ◌++◌, ℕ, zero, suc, ◌+◌, ◌*◌, ◌/◌, ◌%◌, ◌^◌, ◌≤◌, ◌<◌, ltb, length, drop, get_or, Ok}
use Rattle.gf2.specs.Bits.{pick}
use Rattle.answers.specs.Answer.{Answer, Exactly, Accepts, refuse_if}
use Rattle.answers.specs.declared.Refusal.TheVariants.{Short}

-- the number that the first k bytes of a list stand for
unfoldable pub word_of : ℕ → List ℕ → ℕ
word_of zero s = 0
word_of (suc k) [] = 0
word_of (suc k) (b ∷ s) = b + word_of k s * 256

-- the lowest k bytes of a number
unfoldable pub bytes_of : ℕ → ℕ → List ℕ
bytes_of zero v = []
bytes_of (suc k) v = v % 256 ∷ bytes_of k (v / 256)

-- reading an element of k bytes: refusal 4 where fewer are lent
abbrev pub read_of : ℕ → List ℕ → Answer ℕ
read_of k s = refuse_if (ltb (length s) k) Short (Ok (word_of k s))

-- writing one: refusal 4 where fewer bytes are lent
abbrev pub room_for : ℕ → List ℕ → Answer (Unit {0})
room_for k d = refuse_if (ltb (length d) k) Short (Ok tt)

-- a list after v was written into its first k bytes; too short a list stays as it was
abbrev pub written : ℕ → List ℕ → ℕ → List ℕ
written k d v = pick (ltb (length d) k) d (bytes_of k v ++ drop k d)

-- every entry is a byte
abbrev pub Bytes : List ℕ → Type 0
Bytes s = (i : ℕ) → get_or s i 0 < 256

-- refusal 4 is given exactly where fewer than k bytes are lent, and then nothing changes; a writer changes the first k bytes only;
-- and what was written is read again, and what was read is written again
pub record Lent (k : ℕ) : Type 0 where
  pub read_refuses : (s : List ℕ) → Exactly Short (length s < k) (read_of k s)
  pub read_accepts : (s : List ℕ) → Accepts (k ≤ length s) (word_of k s) (read_of k s)
  pub write_refuses : (d : List ℕ) → Exactly Short (length d < k) (room_for k d)
  pub write_accepts : (d : List ℕ) → Accepts (k ≤ length d) tt (room_for k d)
  pub written_short : (d : List ℕ) (v : ℕ) → length d < k → written k d v ≡ d
  pub written_rest : (d : List ℕ) (v : ℕ) → drop k (written k d v) ≡ drop k d
  pub length_written : (d : List ℕ) (v : ℕ) → length (written k d v) ≡ length d
  pub read_written : (d : List ℕ) (v : ℕ) → k ≤ length d → v < 2 ^ (8 * k) → read_of k (written k d v) ≡ Ok v
  pub written_read : (d : List ℕ) → Bytes d → written k d (word_of k d) ≡ d
