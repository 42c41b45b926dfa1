-- Where a list of edges leads, and in which order the edges stand.
use Rattle.std.specs.Prelude.{◌≡◌, ℕ, zero, suc, ◌<◌, ◌≤◌, Bool, cond, ◌&&◌, List, ◌==◌, nat_le, slice_index}
use Rattle.ruleformat.specs.declared.format.Edge.{Edge}
use Rattle.ruleformat.specs.declared.format.Header.{Header}
use Rattle.ruleformat.specs.declared.format.Kind.TheVariants.{Edges}
use Rattle.ruleformat.specs.Layout.{entry_bytes}
use Rattle.ruleformat.specs.Faults.{edge_of}

-- an edge lists a state and a letter: it is of that state, and the letter is between its first and its last
pub record Lists (e : Edge) (s a : ℕ) : Type 0 where
  pub of_state : e.state ≡ s
  pub from_first : e.first ≤ a
  pub to_last : a ≤ e.last

abbrev pub lists : Edge → ℕ → ℕ → Bool
lists e s a = e.state == s && (nat_le e.first a && nat_le a e.last)

-- where the first m edges lead from s by a: to the target of the edge that lists them, and else they leave s as it is
abbrev pub lead : (ℕ → Edge) → ℕ → ℕ → ℕ → ℕ
lead es zero s a = s
lead es (suc m) s a = cond (lists (es m) s a) (es m).target (lead es m s a)

-- r is where a file's edges lead from s by a: a listed letter leads to the target, an unlisted one leaves s as it is
pub record Leads (f : List ℕ) (h : Header) (s a r : ℕ) : Type 0 where
  pub listed : (i : ℕ) → i < h.entries → Lists (edge_of f h i) s a → r ≡ (edge_of f h i).target
  pub unlisted : ((i : ℕ) → i < h.entries → Lists (edge_of f h i) s a → ⊥) → r ≡ s

-- `first` is the number of edges of states below s: the index of the first edge of s, if it has one
abbrev pub IndexOf : List ℕ → Header → ℕ → ℕ → Type 0
IndexOf f h s first =
    (first ≤ h.entries) × ((i : ℕ) → i < h.entries → (i < first → (edge_of f h i).state < s) × ((edge_of f h i).state < s → i < first))

-- the index of each state, and behind the last one the number of all edges
abbrev pub Indexed : List ℕ → Header → List ℕ → Type 0
Indexed f h firsts = (s : ℕ) → s ≤ h.states → IndexOf f h s (slice_index firsts s)

-- the bytes of the edges, six each
abbrev pub edge_bytes : List ℕ → Header → List (List ℕ)
edge_bytes f h = entry_bytes Edges f h
