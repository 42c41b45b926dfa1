-- A history written as a line, and read back.
use Rattle.std.specs.Prelude.{◌≡◌, ℕ, List, [], ◌∷◌, ◌++◌, Ok, Err, vec_items, decimal, Result, Vec}
use Rattle.std.specs.declared.alloc.Global.{Global}
use Rattle.automata.specs.Words.{Word}
use Rattle.histories.specs.declared.line.LineFault.{LineFault}
use Rattle.histories.specs.declared.line.LineFault.TheVariants.{Token, Memory}

-- The decimal numbers of a word, with one space between two of them.
abbrev pub spelled : List ℕ → List ℕ
spelled [] = []
spelled (a ∷ []) = decimal a
spelled (a ∷ b ∷ w) = decimal a ++ (32 ∷ spelled (b ∷ w))

-- A word was read, or memory was wanting.
abbrev pub WordRead : List ℕ → Result (Vec ℕ Global) LineFault → Type 0
WordRead w (Ok v) = vec_items v ≡ w
WordRead w (Err (Token t)) = ⊥
WordRead w (Err Memory) = Unit {0}

-- A line that spells a word over k letters is read as that word.
abbrev pub ReadsBack : ℕ → List ℕ → Result (Vec ℕ Global) LineFault → Type 0
ReadsBack k line r = (w : List ℕ) → Word k w → line ≡ spelled w → WordRead w r
