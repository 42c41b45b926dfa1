-- What the tables of rule files mean.
use Rattle.std.specs.Prelude.{ℕ, ◌+◌, ◌*◌, ◌<◌, ◌≤◌, cond, ◌&&◌, List, Some, None, Option, nat_lt, slice_index}
use Rattle.std.specs.Option.{unwrap_or}
use Rattle.automata.specs.Meaning.{Meaning, closed_rule}
use Rattle.ruleformat.specs.declared.format.Kind.{Kind}
use Rattle.ruleformat.specs.declared.format.Kind.TheVariants.{Dense, Edges}
use Rattle.ruleformat.specs.declared.format.Header.{Header}
use Rattle.ruleformat.specs.Bytes.{two_at}
use Rattle.ruleformat.specs.Layout.{entry_place, verdict_place}
use Rattle.ruleformat.specs.Faults.{edge_of}
use Rattle.ruleformat.specs.EdgeWords.{lead}

-- the numbers of a table are in their ranges
abbrev pub InRanges : Header → Type 0
InRanges h = (1 ≤ h.states) × (h.states ≤ 128) × (1 ≤ h.letters) × (h.letters ≤ 64) × (h.start < h.states)

-- a state within the ranges, and 0 out of them
abbrev pub inside : Header → ℕ → ℕ → ℕ → ℕ
inside h s a next = cond (nat_lt s h.states && nat_lt a h.letters) next 0

-- the verdict of a state's byte, and the closing one where there is no such state
abbrev pub verdict_at : {V : Type 0} → (ℕ → Option V) → V → List ℕ → Header → ℕ → V
verdict_at reads closing f h s = cond (nat_lt s h.states) (unwrap_or (reads (slice_index f (verdict_place h s))) closing) closing

-- the automaton of a file whose transitions are `next`
abbrev pub with_transitions : {V : Type 0} → (ℕ → ℕ → ℕ) → (ℕ → Option V) → V → List ℕ → Header → Meaning V
with_transitions next reads closing f h =
    record {
      n = h.states;
      k = h.letters;
      start = h.start;
      next = λ s a. inside h s a (next s a);
      verdict = verdict_at reads closing f h;
    }

-- the targets stand state by state, letters rising
abbrev pub target : List ℕ → Header → ℕ → ℕ → ℕ
target f h s a = two_at f (entry_place Dense h (s * h.letters + a))

abbrev pub dense_table : {V : Type 0} → (ℕ → Option V) → V → List ℕ → Header → Meaning V
dense_table reads closing f h = with_transitions (target f h) reads closing f h

abbrev pub edge_table : {V : Type 0} → (ℕ → Option V) → V → List ℕ → Header → Meaning V
edge_table reads closing f h = with_transitions (lead (edge_of f h) h.entries) reads closing f h

-- where the transitions of a file of kind kd lead
abbrev pub transitions_of : Kind → List ℕ → Header → ℕ → ℕ → ℕ
transitions_of Dense f h = target f h
transitions_of Edges f h = lead (edge_of f h) h.entries

-- what is meant of the one that is there, and the closed rule where there is none
abbrev pub or_closed : {V X : Type 0} → V → Option X → (X → Meaning V) → Meaning V
or_closed closing None meaning = closed_rule closing
or_closed closing (Some x) meaning = meaning x
