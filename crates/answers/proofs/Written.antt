-- Lent bytes after a number was written into the first of them; and what readers and writers answer.
use Rattle.std.proofs.Common.{◌≡◌, ◌∙◌, sym, ap, ap₂, zero-add, arith, lt-ltb, le-ltb, take-append-drop, drop-drop, length-take-le, Bool, ltb, length, take, drop, List, ◌++◌, ℕ, ◌+◌, ◌*◌, ◌^◌, ◌≤◌, ◌<◌, mod-eq_of_lt, le_of_eq, take_all, take_at, drop_at, Ok}
use Rattle.std.proofs.Math.Decide.{dec_le}
use Rattle.std.proofs.Math.Seq.{paste, drop-append-add, length_front}
use Rattle.gf2.specs.Bits.{pick}
use Rattle.answers.specs.Lent.{word_of, bytes_of, read_of, written, Bytes, Lent}
use Rattle.answers.specs.declared.Refusal.TheVariants.{Short}
use Rattle.answers.proofs.Lent.{word_of-bytes, bytes_of-word, length-bytes_of}
use Rattle.answers.proofs.Refusals.{below, not_below, refuses, accepts_where, accepts}

-- ---- bytes put in their places

take-bytes_of : (k v : ℕ) → take k (bytes_of k v) ≡ bytes_of k v
take-bytes_of k v = take_all k (bytes_of k v) (le_of_eq (length-bytes_of k v))

-- the first k
pub put_front : (k v : ℕ) (d : List ℕ) → paste d 0 (bytes_of k v) k ≡ bytes_of k v ++ drop k d
put_front k v d = ap₂ (λ (s : List ℕ) (n : ℕ). s ++ drop n d) (take-bytes_of k v) (zero-add k)

-- and k more after j
pub put_next : (j k v w : ℕ) (d : List ℕ) → paste (bytes_of j v ++ drop j d) j (bytes_of k w) k ≡ bytes_of j v ++ bytes_of k w ++ drop (j + k) d
put_next j k v w d =
    ap₂ (λ (s t : List ℕ). s ++ take k (bytes_of k w) ++ t) (take_at (bytes_of j v) (drop j d) j (length-bytes_of j v))
    (ap (λ (n : ℕ). drop (n + k) (bytes_of j v ++ drop j d)) (sym (length-bytes_of j v)) ∙ drop-append-add (bytes_of j v) (drop j d) k ∙ drop-drop k j d)
    ∙ ap (λ (s : List ℕ). bytes_of j v ++ s ++ drop (j + k) d) (take-bytes_of k w)

-- ---- written

module _ (k : ℕ) (d : List ℕ) (v : ℕ) where
  -- where there is room
  pub written_room : k ≤ length d → written k d v ≡ bytes_of k v ++ drop k d
  written_room h = ap (λ (t : Bool). pick t d (bytes_of k v ++ drop k d)) (le-ltb (length d) k h)

  -- and where there is none, nothing changes
  pub written_short : length d < k → written k d v ≡ d
  written_short h = ap (λ (t : Bool). pick t d (bytes_of k v ++ drop k d)) (lt-ltb (length d) k h)

  pub word_of-written : k ≤ length d → v < 2 ^ (8 * k) → word_of k (written k d v) ≡ v
  word_of-written h l = ap (word_of k) (written_room h) ∙ word_of-bytes k v (drop k d) ∙ mod-eq_of_lt l

  -- the length stays, and so do the bytes past the first k
  pub length_written : length (written k d v) ≡ length d
  length_written = go (dec_le k (length d))
    where
      go : Dec (k ≤ length d) → length (written k d v) ≡ length d
      go (yes h) = ap length (written_room h) ∙ length_front d (bytes_of k v) k (length-bytes_of k v ∙ sym (length-take-le k d h))
      go (no n) = ap length (written_short (omega arith))

  pub drop-written : drop k (written k d v) ≡ drop k d
  drop-written = go (dec_le k (length d))
    where
      go : Dec (k ≤ length d) → drop k (written k d v) ≡ drop k d
      go (yes h) = ap (drop k) (written_room h) ∙ drop_at (bytes_of k v) (drop k d) k (length-bytes_of k v)
      go (no n) = ap (drop k) (written_short (omega arith))

-- what was read, written again
pub written-word : (k : ℕ) (d : List ℕ) → Bytes d → written k d (word_of k d) ≡ d
written-word k d b = go (dec_le k (length d))
  where
    go : Dec (k ≤ length d) → written k d (word_of k d) ≡ d
    go (yes h) = written_room k d (word_of k d) h ∙ ap (λ (s : List ℕ). s ++ drop k d) (bytes_of-word k d b h) ∙ take-append-drop k d
    go (no n) = written_short k d (word_of k d) (omega arith)

-- what was written, read again
pub read_written : (k : ℕ) (d : List ℕ) (v : ℕ) → k ≤ length d → v < 2 ^ (8 * k) → read_of k (written k d v) ≡ Ok v
read_written k d v h l =
    accepts (ltb (length (written k d v)) k) Short (Ok (word_of k (written k d v))) (le-ltb (length (written k d v)) k (rw length_written h))
    ∙ ap Ok (word_of-written k d v h l)

-- ---- all of it, at any number of bytes

pub lent : (k : ℕ) → Lent k
lent k = record {
  read_refuses = λ s. refuses (ltb (length s) k) Short _ (below (length s) k);
  read_accepts = λ s. accepts_where (ltb (length s) k) Short _ (not_below (length s) k);
  write_refuses = λ d. refuses (ltb (length d) k) Short tt (below (length d) k);
  write_accepts = λ d. accepts_where (ltb (length d) k) Short tt (not_below (length d) k);
  written_short = written_short k;
  written_rest = drop-written k;
  length_written = length_written k;
  read_written = read_written k;
  written_read = written-word k;
}
