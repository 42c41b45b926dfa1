-- A word that is spelled is read back.
use Rattle.std.proofs.Common.{◌≡◌, ℕ, ◌^◌, ◌<◌, true, false, List, [], ◌∷◌, ◌++◌, map, Ok, Err, decimal, Result, Vec, sym, refl, ap, ◌∙◌, append_assoc, append-nil, arith}
use Rattle.std.specs.Char.{is_ascii_digit}
use Rattle.std.specs.Str.{all_ascii_digits}
use Rattle.std.specs.declared.alloc.Global.{Global}
use Rattle.std.proofs.lemmas.Fmt.{digits_decimal, digits_value-decimal, decimal_nonempty}
use Rattle.std.proofs.lemmas.Str.Parse.{IsNumeralModel, numerals_by_fold, tells_all_ascii_digits}
use Rattle.std.proofs.lemmas.Bool.{and_parts}
use Rattle.std.proofs.lemmas.Bool.Decides.{nat_tests}
use Rattle.automata.specs.Words.{Word}
use Rattle.histories.specs.declared.line.LineFault.{LineFault}
use Rattle.histories.specs.declared.line.LineFault.TheVariants.{Token, Memory}
use Rattle.histories.specs.Tokens.{blank, tokens}
use Rattle.histories.specs.Letters.{value_after, value, letter_of}
use Rattle.histories.specs.Histories.{word, letters_after, history_of, Read}
use Rattle.histories.specs.Spelling.{spelled, ReadsBack}
use Rattle.histories.specs.Pieces.{Solid}
use Rattle.histories.proofs.Cutting.{Unbroken, first_token, last_token}

own : IsNumeralModel (λ ds. all_ascii_digits ds ≡ true) value
own = numerals_by_fold _ tells_all_ascii_digits value_after (record { empty = λ _. refl; more = λ _ _ _ _. refl })

digit_solid : (c : ℕ) → is_ascii_digit c ≡ true → blank c ≡ false
digit_solid c d = grind (arith, nat_tests)

digits_solid : (ds : List ℕ) → all_ascii_digits ds ≡ true → Unbroken ds
digits_solid [] d = tt
digits_solid (c ∷ ds) d = let p = and_parts (is_ascii_digit c) (all_ascii_digits ds) d in (digit_solid c p.0, digits_solid ds p.1)

module _ (k : ℕ) (fits : k < 2 ^ 64) where
  letter_digits : (a : ℕ) → a < k → all_ascii_digits (decimal a) ≡ true
  letter_digits a h = digits_decimal own a (omega arith)

  letter_solid : (a : ℕ) → a < k → Solid (decimal a)
  letter_solid a h = (decimal_nonempty a (omega arith), digits_solid (decimal a) (letter_digits a h))

  tokens_spelled : (w : List ℕ) → Word k w → tokens (spelled w) ≡ map decimal w
  tokens_spelled [] l = refl
  tokens_spelled (a ∷ []) l = ap tokens (sym (append-nil (decimal a))) ∙ last_token (decimal a) (letter_solid a l.0)
  tokens_spelled (a ∷ b ∷ w) l =
      first_token (decimal a) 32 (spelled (b ∷ w)) (letter_solid a l.0) refl ∙ ap (λ (ts : List (List ℕ)). decimal a ∷ ts) (tokens_spelled (b ∷ w) l.1)

  letter_back : (a : ℕ) → a < k → letter_of k (decimal a) ≡ Ok a
  letter_back a h =
      let digits = letter_digits a h in
      let is : value (decimal a) ≡ a = digits_value-decimal own a (omega arith) in
      grind (arith, nat_tests)

  letters_back : (so_far w : List ℕ) → Word k w → letters_after k so_far (map decimal w) ≡ word (so_far ++ w)
  letters_back so_far [] l = ap word (sym (append-nil so_far))
  letters_back so_far (a ∷ w) l =
      rw (letter_back a l.0) (letters_back (so_far ++ a ∷ []) w l.1 ∙ ap word (append_assoc so_far (a ∷ []) w))

  spelled_back : (w : List ℕ) → Word k w → history_of k (spelled w) ≡ word w
  spelled_back w l = ap (letters_after k []) (tokens_spelled w l) ∙ letters_back [] w l

  pub reads_back : (line : List ℕ) (r : Result (Vec ℕ Global) LineFault) → Read k line r → ReadsBack k line r
  reads_back line (Ok v) read w l is = let back : history_of k line ≡ word w = ap (history_of k) is ∙ spelled_back w l in cc
  reads_back line (Err (Token t)) read w l is =
      let back : history_of k line ≡ word w = ap (history_of k) is ∙ spelled_back w l in
      cc
  reads_back line (Err Memory) read w l is = tt
