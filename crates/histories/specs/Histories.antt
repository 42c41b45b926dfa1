-- The history that a line tells.
use Rattle.std.specs.Prelude.{◌≡◌, ℕ, true, List, [], ◌∷◌, ◌++◌, is_ok, Ok, Err, vec_items, Result, Vec}
use Rattle.std.specs.declared.alloc.Global.{Global}
use Rattle.histories.specs.declared.token.TokenFault.{TokenFault}
use Rattle.histories.specs.declared.line.LineFault.{LineFault}
use Rattle.histories.specs.declared.line.LineFault.TheVariants.{Token, Memory}
use Rattle.histories.specs.Tokens.{tokens}
use Rattle.histories.specs.Letters.{letter_of}

-- A line tells a history, which is a word, or its first wrong token is named, with what is wrong with it.
pub data Reading : Type 0 where
  word : List ℕ → Reading
  wrong : TokenFault → List ℕ → Reading

-- What is read of one more token: its letter goes behind the word so far, or it is the first wrong one.
abbrev pub with_letter : List ℕ → Result ℕ TokenFault → List ℕ → (List ℕ → Reading) → Reading
with_letter so_far (Ok letter) token rest = rest (so_far ++ letter ∷ [])
with_letter so_far (Err fault) token rest = wrong fault token

-- The letters of tokens, over k letters, behind a word so far.
abbrev pub letters_after : ℕ → List ℕ → List (List ℕ) → Reading
letters_after k so_far [] = word so_far
letters_after k so_far (token ∷ ts) = with_letter so_far (letter_of k token) token (λ w. letters_after k w ts)

-- The history over k letters that a line tells.
abbrev pub history_of : ℕ → List ℕ → Reading
history_of k line = letters_after k [] (tokens line)

-- The first token is a letter.
abbrev pub Begins : ℕ → List (List ℕ) → Type 0
Begins k [] = ⊥
Begins k (token ∷ ts) = is_ok (letter_of k token) ≡ true

-- What reading a line answers. Memory can be wanting only where the line begins with a letter.
abbrev pub Read : ℕ → List ℕ → Result (Vec ℕ Global) LineFault → Type 0
Read k line (Ok v) = history_of k line ≡ word (vec_items v)
Read k line (Err (Token t)) = history_of k line ≡ wrong t.fault t.text.now
Read k line (Err Memory) = Begins k (tokens line)
