-- The bytes of a 128-bit number are those of its two limbs.
use Rattle.std.proofs.Common.{◌≡◌, ◌∙◌, sym, ap, ap₂, List, ◌++◌, ℕ, ◌*◌, ◌^◌, ◌<◌, drop, take, length, [], ◌-◌, ◌≤◌, add_comm, arith, append-nil, append_assoc, drop-drop, length-drop, take_all, take_at, drop_at}
use lib.ListN.{drop_of_length-le}
use lib.Pow.{high}
use Rattle.words.specs.declared.Limbs.{Limbs}
use Rattle.words.specs.Limbs.{value, limbs}
use Rattle.words.proofs.Value.{pair, limbs-value}
use Rattle.answers.specs.Lent.{word_of, bytes_of, written, Bytes}
use Rattle.answers.proofs.Lent.{word_of-lt, word_of_plus, length-bytes_of, bytes_of_plus, bytes_of_low}
use Rattle.answers.proofs.Written.{written_room, length_written}

pub limbs-word_of : (s : List ℕ) → Bytes s → Bytes (drop 8 s) → pair (word_of 8 s) (word_of 8 (drop 8 s)) ≡ limbs (word_of 16 s)
limbs-word_of s h g =
    sym (ap limbs (word_of_plus 8 8 s ∙ add_comm (word_of 8 s) (word_of 8 (drop 8 s) * 2 ^ 64))
    ∙ limbs-value (pair (word_of 8 s) (word_of 8 (drop 8 s))) (word_of-lt 8 s h) (word_of-lt 8 (drop 8 s) g))

pub bytes_of-value : (l : Limbs) → l.low < 2 ^ 64 → bytes_of 16 (value l) ≡ bytes_of 8 l.low ++ bytes_of 8 l.high
bytes_of-value l h = bytes_of_plus 8 8 (value l) ∙ ap₂ (λ (s t : List ℕ). s ++ t) (bytes_of_low 8 l.high l.low) (ap (bytes_of 8) (high l.high 64 h))

-- the low limb written, and then the high one into what follows it
pub written-value : (d : List ℕ) (l : Limbs) → 16 ≤ length d → l.low < 2 ^ 64 → {e f : List ℕ} → e ≡ written 8 d l.low
    → f ≡ written 8 (take (length e - 8) (drop 8 e)) l.high → take 8 e ++ (f ++ drop (length e - 8) (drop 8 e)) ≡ written 16 d (value l)
written-value d l room h {e} {f} p q =
    let a = bytes_of 8 l.low in
    let b = bytes_of 8 l.high in
    let low : e ≡ a ++ drop 8 d = p ∙ written_room 8 d l.low (omega arith) in
    let long : length e ≡ length d = ap length p ∙ length_written 8 d l.low in
    let rest : take (length e - 8) (drop 8 e) ≡ drop 8 d =
    take_all (length e - 8) (drop 8 e) (omega (arith, length-drop 8 e)) ∙ ap (drop 8) low ∙ drop_at a (drop 8 d) 8 (length-bytes_of 8 l.low) in
    let upper : f ≡ b ++ drop 8 (drop 8 d) =
    q ∙ ap (λ (s : List ℕ). written 8 s l.high) rest ∙ written_room 8 (drop 8 d) l.high (omega (arith, length-drop 8 d)) in
    let front : take 8 e ≡ a = ap (take 8) low ∙ take_at a (drop 8 d) 8 (length-bytes_of 8 l.low) in
    let none : drop (length e - 8) (drop 8 e) ≡ [] = drop_of_length-le (drop 8 e) (omega (arith, length-drop 8 e)) in
    ap₂ (λ (s t : List ℕ). take 8 e ++ (s ++ t)) upper none ∙ ap (λ (s : List ℕ). take 8 e ++ s) (append-nil (b ++ drop 8 (drop 8 d)))
    ∙ ap (λ (s : List ℕ). s ++ (b ++ drop 8 (drop 8 d))) front ∙ sym (append_assoc a b (drop 8 (drop 8 d)))
    ∙ ap₂ (λ (s t : List ℕ). s ++ t) (sym (bytes_of-value l h)) (drop-drop 8 8 d) ∙ sym (written_room 16 d (value l) room)
