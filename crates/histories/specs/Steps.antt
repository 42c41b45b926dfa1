-- One line after another.
use Rattle.std.specs.Prelude.{◌≡◌, ℕ, ◌-◌, ◌^◌, List, Ok, Err, codes, Result}
use Rattle.automata.specs.Meaning.{Meaning}
use Rattle.automata.specs.declared.yes_no.YesNo.{YesNo}
use Rattle.histories.specs.declared.report.LineReport.{LineReport}
use Rattle.histories.specs.declared.step.StepFault.{StepFault}
use Rattle.histories.specs.declared.step.StepFault.TheVariants.{Memory, Full}
use Rattle.histories.specs.declared.tally.Tally.{Tally}
use Rattle.histories.specs.Histories.{history_of, Begins}
use Rattle.histories.specs.Tokens.{tokens}
use Rattle.histories.specs.Outcomes.{Came}
use Rattle.histories.specs.Tallies.{total, Grown}

-- The report has what came of the line, under its number, and the line is counted in. A line that is left out leaves
-- the tally as it is: memory can be wanting only where the line begins with a letter, and the tally is full at 2^64 - 1.
abbrev pub Stepped : Meaning YesNo → List ℕ → Tally → Result LineReport StepFault → Tally → Type 0
Stepped m line t (Ok l) u = Came m (history_of m.k line) l.outcome × Grown t l.outcome u × (l.number ≡ total u) × (l.below ≡ m.k)
Stepped m line t (Err Memory) u = (u ≡ t) × Begins m.k (tokens line)
Stepped m line t (Err Full) u = (u ≡ t) × (total t ≡ 2 ^ 64 - 1)

-- how it is printed that a line is left out
abbrev pub excuse : StepFault → List ℕ
excuse Memory = codes "out of memory"
excuse Full = codes "tally is full"
