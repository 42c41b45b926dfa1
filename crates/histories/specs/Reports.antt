-- What is printed.
use Rattle.std.specs.Prelude.{ℕ, ◌+◌, ◌/◌, ◌%◌, Bool, false, cond, not, ◌&&◌, List, [], ◌∷◌, ◌++◌, codes, decimal, ◌==◌, nat_lt}
use Rattle.std.specs.Fmt.{digit_glyph}
use Rattle.std.specs.List.{flat_map}
use Rattle.automata.specs.YesNo.{spelt}
use Rattle.histories.specs.declared.outcome.Outcome.{Outcome}
use Rattle.histories.specs.declared.outcome.Outcome.TheVariants.{Followed, Unreadable}
use Rattle.histories.specs.declared.tally.Tally.{Tally}
use Rattle.histories.specs.declared.token.TokenFault.{TokenFault}
use Rattle.histories.specs.declared.token.TokenFault.TheVariants.{NotBelow, NoNumber}
use Rattle.histories.specs.Tallies.{total}

-- A visible ASCII character that is no backslash.
abbrev pub visible : ℕ → Bool
visible b = nat_lt 32 b && (nat_lt b 127 && not (b == 92))

-- A visible byte is printed as it is, and any other as \x with its two digits to base 16.
abbrev pub printed_byte : ℕ → List ℕ
printed_byte b = cond (visible b) (b ∷ []) (92 ∷ 120 ∷ digit_glyph false (b / 16) ∷ digit_glyph false (b % 16) ∷ [])

abbrev pub printed : List ℕ → List ℕ
printed token = flat_map printed_byte token

-- What is wrong with a token, by the number of letters of the automaton.
abbrev pub complaint : ℕ → TokenFault → List ℕ → List ℕ
complaint below NotBelow token = codes "letter " ++ (printed token ++ (codes " is not below " ++ decimal below))
complaint below NoNumber token = codes "`" ++ (printed token ++ codes "` is no number")

-- The report of a line, by its number, the number of letters of the automaton, and what came of it.
abbrev pub report : ℕ → ℕ → Outcome → List ℕ
report number below (Followed n v) = decimal number ++ (codes ": " ++ (decimal n ++ (codes " letters, " ++ spelt v)))
report number below (Unreadable t) = decimal number ++ (codes ": " ++ complaint below t.fault t.text.now)

-- The counts of a tally.
abbrev pub counts : Tally → List ℕ
counts t = decimal t.yes ++ (codes " yes, " ++ (decimal t.no ++ (codes " no, " ++ (decimal t.unreadable ++ codes " not readable"))))

-- The last line: how many histories there were, and what came of them.
abbrev pub summary : Tally → List ℕ
summary t = decimal (total t) ++ (codes " histories: " ++ (decimal (t.yes + t.no) ++ (codes " followed, " ++ counts t)))
