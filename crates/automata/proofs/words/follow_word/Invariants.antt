use Rattle.std.proofs.Common.{◌≡◌, ℕ, ◌<◌, get_or, take}
use Rattle.automata.specs.Words.{follow}
use Rattle.automata.proofs.words.follow_word.Given as goal

-- the letters so far are letters, and lead to the state
abbrev pub invariant-loop-index : goal.invariant-loop-index
invariant-loop-index g l =
    let m = g.A.Automaton.meaning l.rule in
    ((j : ℕ) → j < l.index → get_or l.word j 0 < l.letters) × (l.state ≡ follow m m.start (take l.index l.word))
