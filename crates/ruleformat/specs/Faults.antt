-- When bytes are a rule file, and which fault is named where they are none.
use Rattle.std.specs.Prelude.{◌≡◌, ℕ, ◌-◌, ◌<◌, ◌≤◌, true, List, length, is_some, Ok, Err, Option, Result, slice_index, MatchOption}
use Rattle.ruleformat.specs.declared.format.Kind.{Kind}
use Rattle.ruleformat.specs.declared.format.Kind.TheVariants.{Dense, Edges}
use Rattle.ruleformat.specs.declared.format.Header.{Header}
use Rattle.ruleformat.specs.declared.format.Edge.{Edge}
use Rattle.ruleformat.specs.declared.fault.FileFault.{FileFault}
use Rattle.ruleformat.specs.declared.fault.FileFault.TheVariants as fault
use Rattle.ruleformat.specs.Bytes.{two_at, trailer_place, trailer_of, edge_at}
use Rattle.ruleformat.specs.Layout.{Known, Ranged, Laid, header_of, entry_place, verdict_place}

-- an edge of a table: its states and letters are the table's, and it has a letter
abbrev pub InTable : Header → Edge → Type 0
InTable h e = (e.state < h.states) × (e.target < h.states) × (e.first ≤ e.last) × (e.last < h.letters)

-- edges rise by state, and within a state by letters that do not overlap
abbrev pub Rises : Edge → Edge → Type 0
Rises d e = (d.state ≤ e.state) × (d.state ≡ e.state → d.last < e.first)

abbrev pub edge_of : List ℕ → Header → ℕ → Edge
edge_of f h i = edge_at f (entry_place Edges h i)

-- entry i is as the rules say: a target is a state; an edge is one of the table's and comes behind the edge before it
abbrev pub Right : Kind → List ℕ → Header → ℕ → Type 0
Right Dense f h i = two_at f (entry_place Dense h i) < h.states
Right Edges f h i = InTable h (edge_of f h i) × (0 < i → Rises (edge_of f h (i - 1)) (edge_of f h i))

abbrev pub AllRight : Kind → List ℕ → Header → Type 0
AllRight kd f h = (i : ℕ) → i < h.entries → Right kd f h i

-- the byte of state s is a verdict
abbrev pub Reads : {V : Type 0} → (ℕ → Option V) → List ℕ → Header → ℕ → Type 0
Reads reads f h s = is_some (reads (slice_index f (verdict_place h s))) ≡ true

-- of the numbers below m, i is the first of which P does not hold
pub record FirstWrong (P : ℕ → Type 0) (m i : ℕ) : Type 0 where
  pub within : i < m
  pub wrong : P i → ⊥
  pub before : (j : ℕ) → j < i → P j

-- r is the first entry that is not right, or none
abbrev pub FindsWrong : Kind → List ℕ → Header → Option ℕ → Type 0
FindsWrong kd f h r = MatchOption r (AllRight kd f h) (FirstWrong (Right kd f h) h.entries)

-- what is asked before the entries are read
pub record Headed (w : Option Kind) (f : List ℕ) (kd : Kind) : Type 0 where
  pub long : 16 ≤ length f
  pub known : Known w kd (trailer_of f)
  pub ranged : Ranged (trailer_of f)
  pub laid : Laid (length f) kd (trailer_of f)

-- f is a rule file of kind kd
pub record Good {V : Type 0} (reads : ℕ → Option V) (w : Option Kind) (f : List ℕ) (kd : Kind) : Type 0 where
  pub headed : Headed w f kd
  pub entries : AllRight kd f (header_of f kd)
  pub verdicts : (s : ℕ) → s < (header_of f kd).states → Reads reads f (header_of f kd) s

-- The fault of smallest number that fits, with its place: what the smaller numbers ask holds, and what this one asks does
-- not. The place is the length for a short file, the trailer for its kind, figures and distances, and else the first
-- wrong entry or verdict byte.
abbrev pub Refused : {V : Type 0} → (ℕ → Option V) → Option Kind → List ℕ → FileFault → Type 0
Refused reads w f (fault.Short p) = (length f < 16) × (p ≡ length f)
Refused reads w f (fault.Kind p) = (16 ≤ length f) × ((kd : Kind) → Known w kd (trailer_of f) → ⊥) × (p ≡ trailer_place f)
Refused reads w f (fault.Figures p) = (kd : Kind) × (16 ≤ length f) × Known w kd (trailer_of f) × (Ranged (trailer_of f) → ⊥) × (p ≡ trailer_place f)
Refused reads w f (fault.Distance p) = (kd : Kind) × (16 ≤ length f) × Known w kd (trailer_of f) × Ranged (trailer_of f) × (Laid (length f) kd (trailer_of f) → ⊥) × (p ≡ trailer_place f)
Refused reads w f (fault.Entry p) = (kd : Kind) × (i : ℕ) × Headed w f kd × FirstWrong (Right kd f (header_of f kd)) (header_of f kd).entries i × (p ≡ entry_place kd (header_of f kd) i)
Refused reads w f (fault.Verdict p) = (kd : Kind) × (s : ℕ) × Headed w f kd × AllRight kd f (header_of f kd) × FirstWrong (Reads reads f (header_of f kd)) (header_of f kd).states s × (p ≡ verdict_place (header_of f kd) s)

-- what the check answers: the header of a good file, or the fault
abbrev pub Answers : {V : Type 0} → (ℕ → Option V) → Option Kind → List ℕ → Result Header FileFault → Type 0
Answers reads w f (Ok h) = Good reads w f h.kind × (h ≡ header_of f h.kind)
Answers reads w f (Err e) = Refused reads w f e
