-- SHOWN: an answer as a record has it: its number, and two words, which are 0 where the call refuses.
use Rattle.std.specs.Prelude.{ℕ, ◌^◌, Ok, Err}
use Rattle.words.specs.declared.Limbs.{Limbs}
use Rattle.answers.specs.Answer.{Answer, refusal, number}
use Rattle.answers.specs.declared.Refusal.{Refusal}
use Rattle.records.specs.declared.Shown.{Shown}

abbrev pub refused_for : Refusal → Shown
refused_for why = record { number = refusal why; low = 0; high = 0 }

abbrev pub shown : Answer Limbs → Shown
shown (Ok v) = record { number = 0; low = v.low; high = v.high }
shown (Err why) = refused_for why

-- one word as two
abbrev pub small : ℕ → Limbs
small v = record { low = v; high = 0 }

-- a call that writes has how many lent bytes are as they should be, also where it refuses
abbrev pub shown_left : Answer (Unit {0}) → ℕ → Shown
shown_left a matching = record { number = number a; low = matching; high = 0 }

-- a number that no call answers: a refusal's is below 2^32
abbrev pub no_answer : Shown
no_answer = record { number = 2 ^ 32; low = 0; high = 0 }
