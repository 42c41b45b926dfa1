use Rattle.histories.proofs.Walking.{Walking}
use Rattle.histories.proofs.walk.walk_line.Given as goal

abbrev pub invariant-loop-letter : goal.invariant-loop-letter
invariant-loop-letter g l = record {
  can : (goal.iterator-loop-letter g).can_next l.letter-iterator;
  ends : (goal.iterator-loop-letter g).is_finite l.letter-iterator;
  walked : Walking (g.A.Automaton.meaning l.rule) l.line l.letter-iterator l.state l.letters;
}
