-- Refusal 4 is exact at 8 and at 16 bytes, and an element of two limbs that was written is read again.
use Rattle.std.proofs.Common.{◌∙◌, ap, ℕ, Ok, Err}
use Rattle.words.specs.Limbs.{value, limbs}
use Rattle.words.proofs.Value.{limbs-value, value-lt}
use Rattle.answers.specs.Answer.{Answer, Accepts, mapped}
use Rattle.answers.specs.Lent.{read_of}
use Rattle.answers.specs.declared.Refusal.TheVariants.{Short}
use Rattle.answers.proofs.Refusals.{refuses_mapped}
use Rattle.answers.proofs.Written.{read_written, lent}
use Rattle.endian.specs.Refusals.{RefusalsLent}

-- a number that is accepted, as two limbs
accepts_limbs : {P : Type 0} (a : Answer ℕ) {v : ℕ} → Accepts P v a → Accepts P (limbs v) (mapped limbs a)
accepts_limbs (Ok w) e = (e.0, λ p. ap (mapped limbs) (e.1 p))
accepts_limbs (Err why) e = (e.0, λ p. ap (mapped limbs) (e.1 p))

pub refusals_lent : RefusalsLent
refusals_lent = record {
  at_64 = lent 8;
  at_128 = lent 16;
  read_128_refuses = λ s. refuses_mapped limbs (read_of 16 s) Short ((lent 16).read_refuses s);
  read_128_accepts = λ s. accepts_limbs (read_of 16 s) ((lent 16).read_accepts s);
  read_128_written = λ d l h p q. ap (mapped limbs) (read_written 16 d (value l) h (value-lt l p q)) ∙ ap Ok (limbs-value l p q);
}
