use Rattle.std.proofs.Common.{◌≡◌, ℕ, ◌+◌, ◌<◌, length, get_or}
use Rattle.ruleformat.specs.EdgeWords.{IndexOf}
use Rattle.rulefile.proofs.edges.EdgesTransitions.of.Given as goal

abbrev pub invariant-loop-state : goal.invariant-loop-state
invariant-loop-state l = (length l.first-items ≡ l.good.header.states + 1) × ((s : ℕ) → s < l.state-counter → IndexOf l.good.file.now l.good.header s (get_or l.first-items s 0))
