-- Every line is made of blanks and tokens, and its tokens are those.
use Rattle.std.proofs.Common.{◌≡◌, ℕ, true, false, List, [], ◌∷◌, ◌++◌, sym, refl, ap, ◌∙◌, ⊎_elim, append_assoc, append-nil, arith}
use Rattle.std.specs.List.{AllByRecursion}
use Rattle.std.proofs.ByRecursion.{All-push}
use Rattle.std.proofs.lemmas.Bool.{cases_Bool}
use Rattle.histories.specs.Tokens.{blank, tokens, tokens_after}
use Rattle.histories.specs.Pieces.{Piece, gap, token, written, tokens_among, Solid, Proper, CutRight}
use Rattle.histories.proofs.Scanning.{closed_some}

-- no byte is a blank
abbrev pub Unbroken : List ℕ → Type 0
Unbroken t = AllByRecursion (λ b. blank b ≡ false) t

-- such bytes go behind the run
run_on : (run t rest : List ℕ) → Unbroken t → tokens_after run (t ++ rest) ≡ tokens_after (run ++ t) rest
run_on run [] rest s = ap (λ (l : List ℕ). tokens_after l rest) (sym (append-nil run))
run_on run (b ∷ t) rest s = rw s.0 (run_on (run ++ b ∷ []) t rest s.1 ∙ ap (λ (l : List ℕ). tokens_after l rest) (append_assoc run (b ∷ []) t))

-- a token before a blank, and a token at the end
pub first_token : (t : List ℕ) (b : ℕ) (rest : List ℕ) → Solid t → blank b ≡ true → tokens (t ++ b ∷ rest) ≡ t ∷ tokens rest
first_token t b rest s e = run_on [] t (b ∷ rest) s.1 ∙ rw e (closed_some t (tokens rest) s.0)

pub last_token : (t : List ℕ) → Solid t → tokens (t ++ []) ≡ t ∷ []
last_token t s = run_on [] t [] s.1 ∙ closed_some t [] s.0

tokens_written : (ps : List Piece) → Proper ps → tokens (written ps) ≡ tokens_among ps
tokens_written [] p = refl
tokens_written (gap b ∷ ps) p = rw p.0 (tokens_written ps p.1)
tokens_written (token t ∷ []) p = last_token t p
tokens_written (token t ∷ gap b ∷ ps) p = first_token t b (written ps) p.0 p.1 ∙ ap (λ (ts : List (List ℕ)). t ∷ ts) (tokens_written ps p.2)
tokens_written (token t ∷ token u ∷ ps) p = absurd p

-- a way to make a line
abbrev Way : List ℕ → Type 0
Way line = (ps : List Piece) × Proper ps × (written ps ≡ line)

-- a run, a blank and a way to go on
behind_blank : (run : List ℕ) (b : ℕ) (rest : List ℕ) → Unbroken run → blank b ≡ true → Way rest → Way (run ++ b ∷ rest)
behind_blank [] b rest s e way = (gap b ∷ way.0, (e, way.1), ap (λ (l : List ℕ). b ∷ l) way.2)
behind_blank (c ∷ run) b rest s e way =
    (token (c ∷ run) ∷ gap b ∷ way.0, ((omega arith, s), e, way.1), ap (λ (l : List ℕ). (c ∷ run) ++ b ∷ l) way.2)

way_after : (run line : List ℕ) → Unbroken run → Way (run ++ line)
way_after [] [] s = ([], tt, refl)
way_after (c ∷ run) [] s = (token (c ∷ run) ∷ [], (omega arith, s), refl)
way_after run (b ∷ line) s =
    ⊎_elim
    (λ e. behind_blank run b line s e (way_after [] line tt))
    (λ e. let way = way_after (run ++ b ∷ []) line (All-push (λ (c : ℕ). blank c ≡ false) run b s e) in (way.0, way.1, way.2 ∙ append_assoc run (b ∷ []) line))
    (cases_Bool (blank b))

pub cut_right : (line : List ℕ) → CutRight line
cut_right line = record {
  some_way = way_after [] line tt;
  any_way = λ ps p e. ap tokens (sym e) ∙ tokens_written ps p;
}
