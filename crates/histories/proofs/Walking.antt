-- Following the letters of a line as they are taken.
use Rattle.std.proofs.Common.{rules, ◌≡◌, ℕ, ◌+◌, ◌≤◌, List, [], ◌∷◌, ◌++◌, length, Ok, Some, sym, ap, ◌∙◌, arith}
use Rattle.std.proofs.lemmas.List.{length_push}
use Rattle.automata.specs.Meaning.{Meaning}
use Rattle.automata.specs.Words.{follow}
use Rattle.automata.proofs.Following.{follow-append}
use Rattle.histories.specs.declared.letters.Letters.{Letters}
use Rattle.histories.specs.Histories.{letters_after, history_of}
use Rattle.histories.specs.Taking.{line_left, letters_over, TakesLetter}
use Rattle.histories.specs.Tokens.{tokens}

-- the walk has taken some letters of the line, and the rest of the line is left
pub record Walking {V : Type 0} (m : Meaning V) (line : List ℕ) (s : Letters) (state count : ℕ) : Type 0 where
  pub letters : List ℕ
  pub over : letters_over s ≡ m.k
  pub reads : history_of m.k line ≡ letters_after m.k letters (tokens (line_left s))
  pub stands : state ≡ follow m m.start letters
  pub counted : count ≡ length letters
  pub room : count + length (line_left s) ≤ length line

-- one letter more
pub walk_on : {V : Type 0} (m : Meaning V) (line : List ℕ) (s t : Letters) (state count a next : ℕ) → Walking m line s state count → TakesLetter s (Some (Ok a)) t → next ≡ m.next state a → Walking m line t next (count + 1)
walk_on m line s t state count a next w step led = record {
  letters = w.letters ++ a ∷ [];
  over = search rules;
  reads = search rules;
  stands = led ∙ ap (λ (s : ℕ). m.next s a) w.stands ∙ sym (follow-append m m.start w.letters (a ∷ []));
  counted = omega (arith, length_push w.letters a, w.counted);
  room = omega (arith, w.room, step.2);
}
