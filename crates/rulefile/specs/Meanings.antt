-- What the automata over a file mean, by its bytes.
use Rattle.std.specs.Prelude.{◌≡◌, ℕ, ◌<◌, Bool, cond, Option, is_some}
use Rattle.automata.specs.Meaning.{Meaning}
use Rattle.ruleformat.specs.declared.format.Kind.{Kind}
use Rattle.ruleformat.specs.declared.format.Kind.TheVariants as kinds
use Rattle.ruleformat.specs.EdgeWords.{Leads}
use Rattle.ruleformat.specs.Tables.{or_closed}
use Rattle.ruleformat.specs.Makes.{table_of}
use Rattle.rulefile.specs.declared.good_file.GoodFile.{GoodFile}
use Rattle.rulefile.specs.declared.table.FileTable.{FileTable}
use Rattle.rulefile.specs.declared.dense.Dense.{Dense}
use Rattle.rulefile.specs.declared.edges.Edges.{Edges}
use Rattle.rulefile.specs.declared.rule_file.RuleFile.{RuleFile}
use Rattle.rulefile.specs.declared.rule_file.RuleFile.TheVariants as file

-- a good file means the table of its kind
abbrev pub good_meaning : {V : Type 0} → (ℕ → Option V) → V → GoodFile → Meaning V
good_meaning reads closing g = table_of g.header.kind reads closing g.file.now g.header

-- a table means what its file does, and the closed rule where it has none
abbrev pub table_meaning : {T V : Type 0} → (ℕ → Option V) → V → (T → GoodFile) → FileTable T V → Meaning V
table_meaning reads closing file_of t = or_closed closing t.transitions (λ x. good_meaning reads closing (file_of x))

-- whether it has one
abbrev pub is_made : {T V : Type 0} → FileTable T V → Bool
is_made t = is_some t.transitions

abbrev pub dense_meaning : {V : Type 0} → (ℕ → Option V) → V → FileTable Dense V → Meaning V
dense_meaning reads closing t = table_meaning reads closing (λ x. x.good) t

abbrev pub edge_meaning : {V : Type 0} → (ℕ → Option V) → V → FileTable Edges V → Meaning V
edge_meaning reads closing t = table_meaning reads closing (λ x. x.good) t

-- a file of either kind means what its table does
abbrev pub file_meaning : {V : Type 0} → (ℕ → Option V) → V → RuleFile V → Meaning V
file_meaning reads closing (file.Dense t) = dense_meaning reads closing t
file_meaning reads closing (file.Edges t) = edge_meaning reads closing t

-- which of the two tables it holds
abbrev pub holds : {V : Type 0} → RuleFile V → Kind
holds (file.Dense t) = kinds.Dense
holds (file.Edges t) = kinds.Edges

-- its kind is that of the table; where there is none, dense
abbrev pub kind_of : {V : Type 0} → RuleFile V → Kind
kind_of (file.Dense t) = kinds.Dense
kind_of (file.Edges t) = cond (is_made t) kinds.Edges kinds.Dense

-- r is the automaton of a good file: it is of the file's kind and holds the table of that kind, it means what the file does,
-- and within the ranges that of a list of edges leads as they do
abbrev pub IsOf : {V : Type 0} → (ℕ → Option V) → V → GoodFile → RuleFile V → Type 0
IsOf reads closing g r =
    (kind_of r ≡ g.header.kind)
    × (holds r ≡ g.header.kind)
    × (file_meaning reads closing r ≡ good_meaning reads closing g)
    × (g.header.kind ≡ kinds.Edges → (s a : ℕ) → s < g.header.states → a < g.header.letters → Leads g.file.now g.header s a ((file_meaning reads closing r).next s a))
