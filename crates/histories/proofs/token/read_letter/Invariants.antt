use Rattle.std.proofs.Common.{◌≡◌, min, drop}
use Rattle.std.specs.Str.{all_ascii_digits}
use Rattle.histories.specs.Letters.{value, value_after}
use Rattle.histories.proofs.token.read_letter.Given as goal

abbrev pub invariant-loop-byte : goal.invariant-loop-byte
invariant-loop-byte l =
    (all_ascii_digits l.token ≡ all_ascii_digits (drop l.byte-index l.token))
    × (min (value l.token) 255 ≡ min (value_after l.value (drop l.byte-index l.token)) 255)
