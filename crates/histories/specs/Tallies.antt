-- What a tally tells.
use Rattle.std.specs.Prelude.{◌≡◌, ℕ, ◌+◌, ◌-◌, ◌^◌, cond, List, length, sum_by, Ok, Err, Result, ◌==◌}
use Rattle.automata.specs.declared.yes_no.YesNo.TheVariants.{Yes, No}
use Rattle.histories.specs.declared.outcome.Outcome.{Outcome}
use Rattle.histories.specs.declared.outcome.Outcome.TheVariants.{Followed, Unreadable}
use Rattle.histories.specs.declared.tally.Tally.{Tally}
use Rattle.histories.specs.declared.tally.TallyFull.{TallyFull}

-- Of one line: 1 if it was followed to yes, else 0; and likewise to no, and not readable.
abbrev pub to_yes : Outcome → ℕ
to_yes (Followed n Yes) = 1
to_yes (Followed n No) = 0
to_yes (Unreadable t) = 0

abbrev pub to_no : Outcome → ℕ
to_no (Followed n Yes) = 0
to_no (Followed n No) = 1
to_no (Unreadable t) = 0

abbrev pub not_readable : Outcome → ℕ
not_readable (Followed n v) = 0
not_readable (Unreadable t) = 1

-- How many lines a tally has.
abbrev pub total : Tally → ℕ
total t = t.yes + t.no + t.unreadable

-- How many of the lines.
abbrev pub times : (Outcome → ℕ) → List Outcome → ℕ
times f os = sum_by f os

-- The tally is that of the lines.
pub record Tells (t : Tally) (os : List Outcome) : Type 0 where
  pub yes_told : t.yes ≡ times to_yes os
  pub no_told : t.no ≡ times to_no os
  pub unreadable_told : t.unreadable ≡ times not_readable os
  pub all_told : total t ≡ length os

-- The tally with one more line, counted once and in one place.
pub record Grown (t : Tally) (o : Outcome) (u : Tally) : Type 0 where
  pub yes_grown : u.yes ≡ t.yes + to_yes o
  pub no_grown : u.no ≡ t.no + to_no o
  pub unreadable_grown : u.unreadable ≡ t.unreadable + not_readable o

-- One more line is counted in. A tally of 2^64 - 1 lines is full, and stays as it is.
abbrev pub Counted : Tally → Outcome → Result (Unit {0}) TallyFull → Tally → Type 0
Counted t o r u = cond (total t == 2 ^ 64 - 1) ((r ≡ Err (record {})) × (u ≡ t)) ((r ≡ Ok tt) × Grown t o u)
