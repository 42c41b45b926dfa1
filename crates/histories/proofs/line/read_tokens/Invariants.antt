use Rattle.std.proofs.Common.{◌≡◌, ◌⊎◌, vec_items}
use Rattle.automata.specs.Words.{Word}
use Rattle.histories.specs.Histories.{letters_after, history_of, Begins}
use Rattle.histories.specs.Taking.{line_left, letters_over}
use Rattle.histories.specs.Tokens.{tokens}
use Rattle.histories.proofs.line.read_tokens.Given as goal

abbrev pub invariant-loop-letter : goal.invariant-loop-letter
invariant-loop-letter l = record {
  can : (goal.iterator-loop-letter).can_next l.letter-iterator;
  ends : (goal.iterator-loop-letter).is_finite l.letter-iterator;
  over : letters_over l.letter-iterator ≡ l.letters;
  reads : history_of l.letters l.line ≡ letters_after l.letters (vec_items l.word) (tokens (line_left l.letter-iterator));
  below : Word l.letters (vec_items l.word);
  begun : (tokens (line_left l.letter-iterator) ≡ tokens l.line) ⊎ Begins l.letters (tokens l.line);
}
