-- What a reader's answer tells, and what it is where there are bytes enough.
use Rattle.std.proofs.Common.{◌≡◌, ◌∙◌, sym, ap, List, ℕ, ◌≤◌, ltb, length, ltb-false, le-ltb, Ok}
use Rattle.answers.specs.Answer.{Answer, value_or}
use Rattle.answers.specs.Lent.{word_of, read_of}
use Rattle.answers.specs.declared.Refusal.TheVariants.{Short}
use Rattle.answers.proofs.Refusals.{accepts, accepted}

module _ (k : ℕ) (s : List ℕ) where
  pub read_value : k ≤ length s → {x : ℕ} → x ≡ word_of k s → Ok x ≡ read_of k s
  read_value h e = ap Ok e ∙ sym (accepts (ltb (length s) k) Short (Ok (word_of k s)) (le-ltb (length s) k h))

  pub read_tells : {x : ℕ} → Ok x ≡ read_of k s → (k ≤ length s) × (x ≡ word_of k s)
  read_tells {x} e =
      let a = accepted (ltb (length s) k) Short (Ok (word_of k s)) (sym e) in
      (ltb-false (length s) k a.0, sym (ap (λ (r : Answer ℕ). value_or r 0) a.1))
