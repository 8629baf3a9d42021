-- Each refusal is given in its case and in no other, and in every other the call answers its value.
use Rattle.std.proofs.Common.{◌≡◌, ◌≢◌, ap, ℕ, ◌^◌, ◌<◌, ◌≤◌, List, length, eqb, leb, ne_eqb, Ok, Err}
use borrow.Author.Tests.{eqb-false}
use Rattle.gf2.specs.Residue.{mul, inv}
use Rattle.fields.proofs.Field8.{field8}
use Rattle.answers.specs.Answer.{Answer, Exactly, Accepts, mapped}
use Rattle.answers.specs.Quotient.{inverse_of, quotient_of, NoInverseOf, Quotients}
use Rattle.answers.specs.Lent.{word_of, read_of, room_for}
use Rattle.answers.specs.declared.Refusal.TheVariants.{NoInverse, BadIndex, Short}
use Rattle.answers.proofs.Refusals.{refuses, refuses_mapped, accepts_where, at_most, not_at_most}
use Rattle.answers.proofs.Quotient.{quotients}
use Rattle.answers.proofs.Written.{lent}
use Rattle.rijndael.specs.Element.{element}
use Rattle.rijndael.specs.Node.{node_of}

-- a value changed is accepted where it was before
accepts_mapped : {A B P : Type 0} (f : A → B) (a : Answer A) {v : A} → Accepts P v a → Accepts P (f v) (mapped f a)
accepts_mapped f (Ok w) e = (e.0, λ p. ap (mapped f) (e.1 p))
accepts_mapped f (Err why) e = (e.0, λ p. ap (mapped f) (e.1 p))

-- ---- refusal 1

quotients8 : Quotients 8 0x1b
quotients8 = quotients field8

pub inverse_refuses_zero : (a : ℕ) → Exactly NoInverse (a ≡ 0) (mapped element (inverse_of 8 0x1b a))
inverse_refuses_zero a = refuses_mapped element (inverse_of 8 0x1b a) NoInverse (quotients8.inverse_refuses_zero a)

pub inverse_refuses : (a : ℕ) → a < 2 ^ 8 → Exactly NoInverse (NoInverseOf 8 0x1b a) (mapped element (inverse_of 8 0x1b a))
inverse_refuses a h = refuses_mapped element (inverse_of 8 0x1b a) NoInverse (quotients8.inverse_refuses a h)

pub inverse_accepts : (a : ℕ) → Accepts (a ≢ 0) (element (inv 8 0x1b a)) (mapped element (inverse_of 8 0x1b a))
inverse_accepts a = accepts_mapped element (inverse_of 8 0x1b a) (accepts_where (eqb a 0) NoInverse _ (eqb-false a 0, ne_eqb a 0))

pub quotient_refuses_zero : (a b : ℕ) → Exactly NoInverse (b ≡ 0) (mapped element (quotient_of 8 0x1b a b))
quotient_refuses_zero a b = refuses_mapped element (quotient_of 8 0x1b a b) NoInverse (quotients8.quotient_refuses_zero a b)

pub quotient_refuses : (a b : ℕ) → b < 2 ^ 8 → Exactly NoInverse (NoInverseOf 8 0x1b b) (mapped element (quotient_of 8 0x1b a b))
quotient_refuses a b h = refuses_mapped element (quotient_of 8 0x1b a b) NoInverse (quotients8.quotient_refuses a b h)

pub quotient_accepts : (a b : ℕ) → Accepts (b ≢ 0) (element (mul 8 0x1b a (inv 8 0x1b b))) (mapped element (quotient_of 8 0x1b a b))
quotient_accepts a b = accepts_mapped element (quotient_of 8 0x1b a b) (accepts_where (eqb b 0) NoInverse _ (eqb-false b 0, ne_eqb b 0))

-- ---- refusals 3 and 4

pub node_refuses : (i : ℕ) → Exactly BadIndex (256 ≤ i) (node_of i)
node_refuses i = refuses (leb 256 i) BadIndex (element i) (at_most 256 i)

pub node_accepts : (i : ℕ) → Accepts (i < 256) (element i) (node_of i)
node_accepts i = accepts_where (leb 256 i) BadIndex (element i) (not_at_most 256 i)

pub read_refuses : (s : List ℕ) → Exactly Short (length s < 1) (mapped element (read_of 1 s))
read_refuses s = refuses_mapped element (read_of 1 s) Short ((lent 1).read_refuses s)

pub read_accepts : (s : List ℕ) → Accepts (1 ≤ length s) (element (word_of 1 s)) (mapped element (read_of 1 s))
read_accepts s = accepts_mapped element (read_of 1 s) ((lent 1).read_accepts s)

pub write_refuses : (d : List ℕ) → Exactly Short (length d < 1) (room_for 1 d)
write_refuses = (lent 1).write_refuses

pub write_accepts : (d : List ℕ) → Accepts (1 ≤ length d) tt (room_for 1 d)
write_accepts = (lent 1).write_accepts
