-- Taking the letters of a line, one token after another.
use Rattle.std.specs.Prelude.{◌≡◌, ℕ, ◌<◌, List, [], ◌∷◌, length, Ok, Err, Option, Result, MatchOption, MatchResult}
use Rattle.histories.specs.declared.letters.Letters.{Letters}
use Rattle.histories.specs.declared.line.WrongToken.{WrongToken}
use Rattle.histories.specs.Tokens.{tokens}
use Rattle.histories.specs.Letters.{letter_of}

-- the part of the line that is left, and the number of letters
abbrev pub line_left : Letters → List ℕ
line_left s = s.rest.now

abbrev pub letters_over : Letters → ℕ
letters_over s = s.below

-- What the first token that is left reads as, with the token itself where it is wrong.
abbrev pub ReadAs : ℕ → List ℕ → Result ℕ WrongToken → Type 0
ReadAs k token r = MatchResult r (λ a. letter_of k token ≡ Ok a) (λ w. (letter_of k token ≡ Err w.fault) × (w.text.now ≡ token))

-- A step takes the first token that is left, or finds that none is.
abbrev pub TakesLetter : Letters → Option (Result ℕ WrongToken) → Letters → Type 0
TakesLetter s r t = MatchOption r (tokens (line_left s) ≡ []) (λ item.
    (token : List ℕ) × (tokens (line_left s) ≡ token ∷ tokens (line_left t)) × (length (line_left t) < length (line_left s)) × (letters_over t ≡ letters_over s) × ReadAs (letters_over s) token item)
