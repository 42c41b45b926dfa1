-- A line as blanks and tokens.
use Rattle.std.specs.Prelude.{◌≡◌, ℕ, ◌<◌, true, false, List, [], ◌∷◌, ◌++◌, length}
use Rattle.std.specs.List.{AllByRecursion}
use Rattle.histories.specs.Tokens.{blank, tokens}

-- A piece of a line: one blank, or one token.
pub data Piece : Type 0 where
  gap : ℕ → Piece
  token : List ℕ → Piece

-- The line that pieces make.
abbrev pub written : List Piece → List ℕ
written [] = []
written (gap b ∷ ps) = b ∷ written ps
written (token t ∷ ps) = t ++ written ps

-- The tokens among the pieces.
abbrev pub tokens_among : List Piece → List (List ℕ)
tokens_among [] = []
tokens_among (gap b ∷ ps) = tokens_among ps
tokens_among (token t ∷ ps) = t ∷ tokens_among ps

-- A token has some bytes, and none is a blank.
abbrev pub Solid : List ℕ → Type 0
Solid t = (0 < length t) × AllByRecursion (λ b. blank b ≡ false) t

-- Gaps are blanks, tokens are tokens, and no token stands right behind another.
abbrev pub Proper : List Piece → Type 0
Proper [] = Unit {0}
Proper (gap b ∷ ps) = (blank b ≡ true) × Proper ps
Proper (token t ∷ []) = Solid t
Proper (token t ∷ gap b ∷ ps) = Solid t × (blank b ≡ true) × Proper ps
Proper (token t ∷ token u ∷ ps) = ⊥

-- Every line is made of blanks and tokens, and however it is, its tokens are those.
pub record CutRight (line : List ℕ) : Type 0 where
  pub some_way : (ps : List Piece) × Proper ps × (written ps ≡ line)
  pub any_way : (ps : List Piece) → Proper ps → written ps ≡ line → tokens line ≡ tokens_among ps
