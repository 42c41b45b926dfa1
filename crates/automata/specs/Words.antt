-- Words, where they lead, and which states they tell apart.
use Rattle.std.specs.Prelude.{◌≡◌, ℕ, ◌<◌, ◌≤◌, Bool, true, false, List, [], ◌∷◌, length, slice_index}
use Rattle.std.specs.List.{AllByRecursion}
use Rattle.automata.specs.Meaning.{Meaning}

-- A word over k letters: a list of numbers below k, perhaps empty.
abbrev pub Word : ℕ → List ℕ → Type 0
Word k w = AllByRecursion (λ a. a < k) w

-- The extended transition function: the state where a word ends that is followed from s.
abbrev pub follow : {V : Type 0} → Meaning V → ℕ → List ℕ → ℕ
follow m s [] = s
follow m s (a ∷ w) = follow m (m.next s a) w

-- The verdict of a word: that of the state where it ends from the start.
abbrev pub verdict_of : {V : Type 0} → Meaning V → List ℕ → V
verdict_of m w = m.verdict (follow m m.start w)

-- Some word ends at s from the start.
pub record Reachable {V : Type 0} (m : Meaning V) (s : ℕ) : Type 0 where
  pub word : List ℕ
  pub letters : Word m.k word
  pub ends : follow m m.start word ≡ s

-- Every word leads p and q to the same verdict.
pub record Equivalent {V : Type 0} (alike : V → V → Bool) (m : Meaning V) (p q : ℕ) : Type 0 where
  pub same : (w : List ℕ) → Word m.k w → alike (m.verdict (follow m p w)) (m.verdict (follow m q w)) ≡ true

-- A word leads p and q to verdicts that are not the same.
pub record Separated {V : Type 0} (alike : V → V → Bool) (m : Meaning V) (p q : ℕ) : Type 0 where
  pub word : List ℕ
  pub letters : Word m.k word
  pub differs : alike (m.verdict (follow m p word)) (m.verdict (follow m q word)) ≡ false

-- The first number of w that is no letter, of k, is a, at place i.
pub record FirstForeign (k : ℕ) (w : List ℕ) (i a : ℕ) : Type 0 where
  pub within : i < length w
  pub here : a ≡ slice_index w i
  pub foreign : k ≤ a
  pub before : (j : ℕ) → j < i → slice_index w j < k
