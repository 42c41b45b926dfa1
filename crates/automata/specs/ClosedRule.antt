-- The closed rule is sound.
use Rattle.std.specs.Prelude.{refl}
use Rattle.std.proofs.Common.{arith}
use Rattle.automata.specs.Meaning.{Sound, closed_rule}

pub closed_sound : {V : Type 0} (closing : V) → Sound closing (closed_rule closing)
closed_sound closing = record {
  some_state = omega arith;
  states_fit = omega arith;
  some_letter = omega arith;
  letters_fit = omega arith;
  start_within = omega arith;
  next_within = λ s a p q. omega arith;
  next_past_states = λ s a p. refl;
  next_past_letters = λ s a p. refl;
  verdict_past = λ s p. refl;
}
