-- Cutting the first token off a text.
use Rattle.std.proofs.Common.{◌≡◌, ℕ, ◌+◌, ◌<◌, ◌≤◌, Bool, true, not, List, [], ◌∷◌, ◌++◌, length, get_or, take, drop, Some, None, unwrap_or, sym, refl, ap, ◌∙◌, ⊎_elim, append_assoc, append-nil, arith}
use Rattle.std.specs.List.{position, position_or_len}
use Rattle.std.proofs.Math.Numerals.{one-add}
use Rattle.std.proofs.lemmas.Bool.{cases_Bool}
use Rattle.std.proofs.lemmas.Bool.Decides.{nat_tests}
use Rattle.std.proofs.lemmas.List.{drop_all, at_drop_more}
use Rattle.std.proofs.lemmas.List.Folds.{length-prefix_len}
use Rattle.std.proofs.lemmas.List.Quantifiers.{position-Some}
use Rattle.std.proofs.lemmas.List.Sums.{prefix_len-le-length}
use Rattle.histories.specs.Tokens.{blank, closed, tokens, tokens_after}

-- how many blanks a text begins with, and how many bytes it has before its first blank
abbrev pub blanks_len : List ℕ → ℕ
blanks_len text = position_or_len (λ b. not (blank b)) text

abbrev pub run_len : List ℕ → ℕ
run_len text = position_or_len blank text

blanks_before : (text : List ℕ) → tokens text ≡ tokens (drop (blanks_len text) text)
blanks_before [] = refl
blanks_before (b ∷ text) = ⊎_elim (λ e. rw e (rw (one-add (blanks_len text)) (blanks_before text))) (λ e. rw e (rw e refl)) (cases_Bool (blank b))

run_before : (run text : List ℕ) → tokens_after run text ≡ closed (run ++ take (run_len text) text) (tokens (drop (run_len text) text))
run_before run [] = ap (λ (r : List ℕ). closed r []) (sym (append-nil run))
run_before run (b ∷ text) =
    ⊎_elim
    (λ e. rw e (rw e (ap (λ (r : List ℕ). closed r (tokens text)) (sym (append-nil run)))))
    (λ e. rw e (rw (one-add (run_len text)) (run_before (run ++ b ∷ []) text ∙ ap (λ (r : List ℕ). closed r (tokens (drop (run_len text) text))) (append_assoc run (b ∷ []) (take (run_len text) text)))))
    (cases_Bool (blank b))

-- a run of some bytes is a token
pub closed_some : (run : List ℕ) (ts : List (List ℕ)) → 0 < length run → closed run ts ≡ run ∷ ts
closed_some [] ts h = absurd (omega arith)
closed_some (b ∷ run) ts h = refl

-- a text that begins with a byte that is no blank has a token there
run_some : (b : ℕ) (text : List ℕ) → not (blank b) ≡ true → 0 < run_len (b ∷ text)
run_some b text e = rw e (omega arith)

pub no_token : (text : List ℕ) → position (λ b. not (blank b)) text ≡ None → tokens text ≡ []
no_token text none =
    let all : length text ≤ blanks_len text = grind (arith, nat_tests) in
    blanks_before text ∙ ap tokens (drop_all (blanks_len text) text all)

-- the place of the first byte that passes, or the length
position_or : (p : ℕ → Bool) (text : List ℕ) → unwrap_or (position p text) (length text) ≡ position_or_len p text
position_or p text = let most = prefix_len-le-length (λ b. not (p b)) text in grind (arith, nat_tests)

pub token_cut : (text : List ℕ) (i n : ℕ) → position (λ b. not (blank b)) text ≡ Some i → n ≡ unwrap_or (position blank (drop i text)) (length (drop i text)) → tokens text ≡ take n (drop i text) ∷ tokens (drop n (drop i text))
token_cut text i n is len =
    let first = position-Some (λ b. not (blank b)) text i 0 is in
    let at : i ≡ blanks_len text = grind (arith, nat_tests) in
    let run : n ≡ run_len (drop i text) = len ∙ position_or blank (drop i text) in
    let some : 0 < run_len (drop i text) = rw (at_drop_more run_len text i 0 first.0) (run_some (get_or text i 0) (drop (i + 1) text) first.1) in
    blanks_before text ∙ ap (λ (j : ℕ). tokens (drop j text)) (sym at)
    ∙ run_before [] (drop i text) ∙ closed_some _ _ (omega (arith, length-prefix_len (λ b. not (blank b)) (drop i text)))
    ∙ ap (λ (j : ℕ). take j (drop i text) ∷ tokens (drop j (drop i text))) (sym run)
