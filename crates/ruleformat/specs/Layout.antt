-- Where the parts of a file stand: entries, then verdicts, then the trailer, one directly behind the other. What stands
-- before the entries is notes, and no definition reads it.
use Rattle.std.specs.Prelude.{◌≡◌, ℕ, ◌+◌, ◌-◌, ◌*◌, ◌/◌, ◌<◌, ◌≤◌, List, Some, None, Option, Result, MatchResult, slice_range}
use Rattle.std.specs.Simd.{first_chunks}
use Rattle.ruleformat.specs.declared.format.Kind.{Kind}
use Rattle.ruleformat.specs.declared.format.Kind.TheVariants.{Dense, Edges}
use Rattle.ruleformat.specs.declared.format.Trailer.{Trailer}
use Rattle.ruleformat.specs.declared.format.Header.{Header}
use Rattle.automata.specs.declared.number.UnknownNumber.{UnknownNumber}
use Rattle.ruleformat.specs.Bytes.{trailer_place, trailer_of}

-- the byte that says a kind, the length of its entries, and how many there are
abbrev pub kind_byte : Kind → ℕ
kind_byte Dense = 1
kind_byte Edges = 2

-- a byte is converted to the kind that it says; where it says none, the error has the byte
abbrev pub SaysKind : ℕ → Result Kind UnknownNumber → Type 0
SaysKind byte r = MatchResult r (λ kd. byte ≡ kind_byte kd) (λ e. ((kd : Kind) → byte ≡ kind_byte kd → ⊥) × (e.0 ≡ byte))

abbrev pub entry_size : Kind → ℕ
entry_size Dense = 2
entry_size Edges = 6

abbrev pub entry_count : Kind → Trailer → ℕ
entry_count Dense t = t.states * t.letters
entry_count Edges t = (t.transitions - t.verdicts) / 6

-- any kind is wanted, or just one
abbrev pub Wanted : Option Kind → Kind → Type 0
Wanted None kd = Unit {0}
Wanted (Some w) kd = kd ≡ w

-- the kind is a known and a wanted one, and the version is 1
pub record Known (w : Option Kind) (kd : Kind) (t : Trailer) : Type 0 where
  pub says_kind : t.kind ≡ kind_byte kd
  pub wanted : Wanted w kd
  pub first_version : t.version ≡ 1

-- 1 to 128 states, 1 to 64 letters, and the start is a state
pub record Ranged (t : Trailer) : Type 0 where
  pub some_state : 1 ≤ t.states
  pub states_fit : t.states ≤ 128
  pub some_letter : 1 ≤ t.letters
  pub letters_fit : t.letters ≤ 64
  pub start_within : t.start < t.states

-- the distances are those of the layout, in a file of that many bytes
pub record Laid (len : ℕ) (kd : Kind) (t : Trailer) : Type 0 where
  pub verdicts_close : t.verdicts ≡ t.states
  pub entries_close : t.transitions ≡ t.verdicts + entry_size kd * entry_count kd t
  pub inside : t.transitions + 16 ≤ len

-- what a trailer at a place says, its distances turned into places
abbrev pub header_at : ℕ → Kind → Trailer → Header
header_at at kd t =
    record {
      kind = kd;
      states = t.states;
      letters = t.letters;
      start = t.start;
      entries = entry_count kd t;
      transitions = at - t.transitions;
      verdicts = at - t.verdicts;
    }

abbrev pub header_of : List ℕ → Kind → Header
header_of f kd = header_at (trailer_place f) kd (trailer_of f)

-- where an entry and a verdict stand
abbrev pub entry_place : Kind → Header → ℕ → ℕ
entry_place kd h i = h.transitions + entry_size kd * i

-- the bytes of the entries, entry by entry
abbrev pub entry_bytes : Kind → List ℕ → Header → List (List ℕ)
entry_bytes kd f h = first_chunks (entry_size kd) h.entries (slice_range f h.transitions h.verdicts)

abbrev pub verdict_place : Header → ℕ → ℕ
verdict_place h s = h.verdicts + s

-- the parts of a file of that many bytes follow one another
abbrev pub Closes : ℕ → Kind → Header → Type 0
Closes len kd h = (h.transitions + entry_size kd * h.entries ≡ h.verdicts) × (h.verdicts + h.states + 16 ≡ len)
