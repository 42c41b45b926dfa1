-- Counting one more line in.
use Rattle.std.proofs.Common.{◌≡◌, ◌+◌, List, [], ◌∷◌, ◌++◌, refl, arith}
use Rattle.std.proofs.lemmas.List.{length_push}
use Rattle.std.proofs.lemmas.List.Sums.{sum_by_push}
use Rattle.automata.specs.declared.yes_no.YesNo.TheVariants.{Yes, No}
use Rattle.histories.specs.declared.outcome.Outcome.{Outcome}
use Rattle.histories.specs.declared.outcome.Outcome.TheVariants.{Followed, Unreadable}
use Rattle.histories.specs.declared.tally.Tally.{Tally}
use Rattle.histories.specs.Tallies.{to_yes, to_no, not_readable, Grown, Tells}

-- a line is counted in one place
in_one : (o : Outcome) → to_yes o + to_no o + not_readable o ≡ 1
in_one (Followed n Yes) = refl
in_one (Followed n No) = refl
in_one (Unreadable t) = refl

pub tells_more : (t u : Tally) (o : Outcome) (os : List Outcome) → Grown t o u → Tells t os → Tells u (os ++ o ∷ [])
tells_more t u o os grown told = record {
  yes_told = omega (arith, sum_by_push to_yes os o, told.yes_told, grown.yes_grown);
  no_told = omega (arith, sum_by_push to_no os o, told.no_told, grown.no_grown);
  unreadable_told = omega (arith, sum_by_push not_readable os o, told.unreadable_told, grown.unreadable_grown);
  all_told = omega (arith, in_one o, length_push os o, told.all_told, grown.yes_grown, grown.no_grown, grown.unreadable_grown);
}
