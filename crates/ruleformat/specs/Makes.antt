-- What is made of a file.
use Rattle.std.specs.Prelude.{◌≡◌, ℕ, ◌<◌, List, ◌++◌, Some, None, Option, refl}
use Rattle.automata.specs.Meaning.{Meaning, closed_rule}
use Rattle.ruleformat.specs.declared.format.Kind.{Kind}
use Rattle.ruleformat.specs.declared.format.Kind.TheVariants.{Dense, Edges}
use Rattle.ruleformat.specs.declared.format.Header.{Header}
use Rattle.ruleformat.specs.Layout.{header_of}
use Rattle.ruleformat.specs.Faults.{Good}
use Rattle.ruleformat.specs.EdgeWords.{Leads}
use Rattle.ruleformat.specs.Tables.{with_transitions, transitions_of, dense_table, edge_table}

-- the table of a file of kind kd
abbrev pub table_of : {V : Type 0} → Kind → (ℕ → Option V) → V → List ℕ → Header → Meaning V
table_of kd reads closing f h = with_transitions (transitions_of kd f h) reads closing f h

-- that is the dense table, or the table of the edges
pub dense_table_is : {V : Type 0} (reads : ℕ → Option V) (closing : V) (f : List ℕ) (h : Header) → table_of Dense reads closing f h ≡ dense_table reads closing f h
dense_table_is reads closing f h = refl

pub edge_table_is : {V : Type 0} (reads : ℕ → Option V) (closing : V) (f : List ℕ) (h : Header) → table_of Edges reads closing f h ≡ edge_table reads closing f h
edge_table_is reads closing f h = refl

-- m is what is made of a file as one of kind kd: the file's table if it is good, and else the closed rule
abbrev pub Makes : {V : Type 0} → Kind → (ℕ → Option V) → V → List ℕ → Meaning V → Type 0
Makes kd reads closing f m =
    (Good reads (Some kd) f kd → m ≡ table_of kd reads closing f (header_of f kd)) × ((Good reads (Some kd) f kd → ⊥) → m ≡ closed_rule closing)

-- m is what is made of a file of either kind: the table of its kind if it is good, and else the closed rule
abbrev pub MakesEither : {V : Type 0} → (ℕ → Option V) → V → List ℕ → Meaning V → Type 0
MakesEither reads closing f m =
    ((kd : Kind) → Good reads None f kd → m ≡ table_of kd reads closing f (header_of f kd))
    × (((kd : Kind) → Good reads None f kd → ⊥) → m ≡ closed_rule closing)

-- within the ranges m leads as the edges of a good file do
abbrev pub FollowsEdges : {V : Type 0} → (ℕ → Option V) → List ℕ → Meaning V → Type 0
FollowsEdges reads f m =
    Good reads (Some Edges) f Edges → (s a : ℕ) → s < (header_of f Edges).states → a < (header_of f Edges).letters → Leads f (header_of f Edges) s a (m.next s a)

-- notes in front of a good file change nothing: it stays good, and means what it meant
abbrev pub NotesUnread : {V : Type 0} → (ℕ → Option V) → V → Type 0
NotesUnread reads closing =
    (notes f : List ℕ) (w : Option Kind) (kd : Kind) → Good reads w f kd → Good reads w (notes ++ f) kd × (table_of kd reads closing (notes ++ f) (header_of (notes ++ f) kd) ≡ table_of kd reads closing f (header_of f kd))
