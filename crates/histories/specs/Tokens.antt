-- How a line is cut into tokens.
use Rattle.std.specs.Prelude.{ℕ, Bool, cond, ◌||◌, List, [], ◌∷◌, ◌++◌, ◌==◌}

-- A blank is a space, a tab or a carriage return.
abbrev pub blank : ℕ → Bool
blank b = b == 32 || (b == 9 || b == 13)

-- A run of bytes that are no blanks, before the tokens that follow it. A run of none is no token.
abbrev pub closed : List ℕ → List (List ℕ) → List (List ℕ)
closed [] ts = ts
closed (b ∷ run) ts = (b ∷ run) ∷ ts

-- The tokens of a run and of the bytes right behind it.
abbrev pub tokens_after : List ℕ → List ℕ → List (List ℕ)
tokens_after run [] = closed run []
tokens_after run (b ∷ bs) = cond (blank b) (closed run (tokens_after [] bs)) (tokens_after (run ++ b ∷ []) bs)

-- The tokens of a line: its longest runs of bytes that are no blanks, from the left.
abbrev pub tokens : List ℕ → List (List ℕ)
tokens line = tokens_after [] line
