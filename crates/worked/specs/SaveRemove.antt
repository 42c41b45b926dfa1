-- A rule with two letters, 0 save and 1 remove, that says yes until a panel file is removed; as a table and as edges.
use Rattle.std.specs.Prelude.{◌≡◌, ℕ, zero, suc, ◌<◌, List, [], ◌∷◌}
use Rattle.automata.specs.Meaning.{Meaning}
use Rattle.automata.specs.Words.{Equivalent, Separated, Reachable}
use Rattle.automata.specs.YesNo.{same_byte, says_no, verdict_of_byte}
use Rattle.automata.specs.declared.yes_no.YesNo.{YesNo}
use Rattle.automata.specs.declared.yes_no.YesNo.TheVariants.{No, Yes}
use Rattle.ruleformat.specs.declared.format.Kind.TheVariants.{Dense, Edges}
use Rattle.ruleformat.specs.Layout.{header_of}
use Rattle.ruleformat.specs.Tables.{dense_table, edge_table}

abbrev pub moves : ℕ → ℕ → ℕ
moves zero zero = 1
moves zero (suc zero) = 2
moves zero (suc (suc a)) = 0
moves (suc zero) zero = 0
moves (suc zero) (suc zero) = 2
moves (suc zero) (suc (suc a)) = 0
moves (suc (suc zero)) zero = 2
moves (suc (suc zero)) (suc zero) = 2
moves (suc (suc zero)) (suc (suc a)) = 0
moves (suc (suc (suc s))) a = 0

abbrev pub says : ℕ → YesNo
says zero = Yes
says (suc zero) = Yes
says (suc (suc s)) = No

abbrev pub rule : Meaning YesNo
rule = record { n = 3; k = 2; start = 0; next = moves; verdict = says }

-- the trailer, at the two distances and kinds
abbrev pub trailer : ℕ → ℕ → List ℕ
trailer transitions kind = transitions ∷ 0 ∷ 0 ∷ 0 ∷ 3 ∷ 0 ∷ 0 ∷ 0 ∷ 3 ∷ 0 ∷ 2 ∷ 0 ∷ 0 ∷ 0 ∷ kind ∷ 1 ∷ []

-- the file of the table: six targets, three verdicts
abbrev pub table_file : List ℕ
table_file = 1 ∷ 0 ∷ 2 ∷ 0 ∷ 0 ∷ 0 ∷ 2 ∷ 0 ∷ 2 ∷ 0 ∷ 2 ∷ 0 ∷ 1 ∷ 1 ∷ 0 ∷ trailer 15 1

-- the file of the edges: four edges, three verdicts
abbrev pub edges_file : List ℕ
edges_file =
    0 ∷ 0 ∷ 0 ∷ 0 ∷ 1 ∷ 0 ∷ 0 ∷ 0 ∷ 1 ∷ 1 ∷ 2 ∷ 0 ∷ 1 ∷ 0 ∷ 0 ∷ 0 ∷ 0 ∷ 0 ∷ 1 ∷ 0 ∷ 1 ∷ 1 ∷ 2 ∷ 0 ∷ 1 ∷ 1 ∷ 0 ∷ trailer 27 2

-- both files mean the rule
pub record MeansRule : Type 0 where
  pub table : dense_table verdict_of_byte says_no table_file (header_of table_file Dense) ≡ rule
  pub edges : edge_table verdict_of_byte says_no edges_file (header_of edges_file Edges) ≡ rule

-- what words tell of its states
pub record TellsApart : Type 0 where
  pub saved : Equivalent same_byte rule 0 1
  pub removed : Separated same_byte rule 0 2
  pub reached : (s : ℕ) → s < 3 → Reachable rule s
