-- What an automaton means.
use Rattle.std.specs.Prelude.{◌≡◌, ℕ, ◌<◌, ◌≤◌}

-- The five things: n states, numbered from 0, k letters, numbered from 0, the start state, the next state of a state
-- by a letter, and a state's verdict.
pub record Meaning (V : Type 0) : Type 0 where
  pub n : ℕ
  pub k : ℕ
  pub start : ℕ
  pub next : ℕ → ℕ → ℕ
  pub verdict : ℕ → V

-- The numbers are in their ranges. Out of range the next state is 0, and the verdict is the closing one.
pub record Sound {V : Type 0} (closing : V) (m : Meaning V) : Type 0 where
  pub some_state : 1 ≤ m.n
  pub states_fit : m.n ≤ 128
  pub some_letter : 1 ≤ m.k
  pub letters_fit : m.k ≤ 64
  pub start_within : m.start < m.n
  pub next_within : (s a : ℕ) → s < m.n → a < m.k → m.next s a < m.n
  pub next_past_states : (s a : ℕ) → m.n ≤ s → m.next s a ≡ 0
  pub next_past_letters : (s a : ℕ) → m.k ≤ a → m.next s a ≡ 0
  pub verdict_past : (s : ℕ) → m.n ≤ s → m.verdict s ≡ closing

-- The closed rule: one state, one letter, and one verdict.
abbrev pub closed_rule : {V : Type 0} → V → Meaning V
closed_rule closing = record { n = 1; k = 1; start = 0; next = λ _ _. 0; verdict = λ _. closing }
