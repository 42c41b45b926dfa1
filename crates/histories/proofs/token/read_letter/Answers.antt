use Rattle.std.proofs.Common.{refl, ◌∙◌, arith}
use Rattle.std.specs.Str.{all_ascii_digits}
use Rattle.std.proofs.lemmas.List.{at_drop_more}
use Rattle.histories.proofs.Values.{digit_more}
use Rattle.histories.proofs.token.read_letter.Goals as goal

pub loop-byte-preserved : goal.loop-byte-preserved
loop-byte-preserved c =
    let token = c.args.token.now in
    let i = c.loop-byte.byte-index in (
      c.loop-byte.invariant.0 ∙ at_drop_more all_ascii_digits token i 0 c.loop-byte-test.true ∙ rw (← c.if-not-is_ascii_digit.ensures.value) refl,
      c.loop-byte.invariant.1 ∙ digit_more token i c.loop-byte.value c.saturating_add-value.result c.loop-byte-test.true (omega arith),
    )
