-- Numbers in a file's bytes, lowest byte first. A byte behind the file's end reads as 0.
use Rattle.std.specs.Prelude.{ℕ, ◌+◌, ◌-◌, ◌*◌, List, length, slice_index}
use Rattle.ruleformat.specs.declared.format.Trailer.{Trailer}
use Rattle.ruleformat.specs.declared.format.Edge.{Edge}

abbrev pub two_at : List ℕ → ℕ → ℕ
two_at f i = slice_index f i + slice_index f (i + 1) * 256

abbrev pub four_at : List ℕ → ℕ → ℕ
four_at f i = two_at f i + two_at f (i + 2) * 65536

-- the place of the trailer, the last 16 bytes
abbrev pub trailer_place : List ℕ → ℕ
trailer_place f = length f - 16

-- the numbers that the trailer holds
unfoldable pub trailer_of : List ℕ → Trailer
trailer_of f =
    record {
      transitions = four_at f (trailer_place f);
      verdicts = four_at f (trailer_place f + 4);
      states = two_at f (trailer_place f + 8);
      letters = two_at f (trailer_place f + 10);
      start = two_at f (trailer_place f + 12);
      kind = slice_index f (trailer_place f + 14);
      version = slice_index f (trailer_place f + 15);
    }

-- the edge in the 6 bytes at a place
unfoldable pub edge_at : List ℕ → ℕ → Edge
edge_at f p = record { state = two_at f p; first = slice_index f (p + 2); last = slice_index f (p + 3); target = two_at f (p + 4) }
