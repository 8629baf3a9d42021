-- TALLY: counts of cases, modulo 2^64.
use Rattle.std.specs.Prelude.{ℕ, ◌+◌, ◌%◌, ◌^◌, Bool}
use Rattle.gf2.specs.Bits.{pick}
use Rattle.records.specs.declared.Tally.{Tally}

abbrev pub one_more : ℕ → ℕ
one_more n = (n + 1) % 2 ^ 64

abbrev pub one_more_if_of : ℕ → Bool → ℕ
one_more_if_of n counts = pick counts (one_more n) n

abbrev pub none_of : Tally
none_of = record { cases = 0; agreed = 0; group_cases = 0; group_agreed = 0 }

-- one case more, in all and in the group
abbrev pub with_of : Tally → Bool → Tally
with_of t agrees =
    record {
      cases = one_more t.cases;
      agreed = one_more_if_of t.agreed agrees;
      group_cases = one_more t.group_cases;
      group_agreed = one_more_if_of t.group_agreed agrees;
    }

-- the group's counts start again
abbrev pub closed_of : Tally → Tally
closed_of t = record { cases = t.cases; agreed = t.agreed; group_cases = 0; group_agreed = 0 }
