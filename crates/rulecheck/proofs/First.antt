-- The first number, or the first element of a list, that fails a test.
use Rattle.std.proofs.Common.{ℕ, ◌<◌, ◌≤◌, ◌≡◌, List, length, get_or, Some, None, Option, MatchOption, arith}
use Rattle.std.specs.List.{AllWithin, HoldsAt}
use Rattle.ruleformat.specs.Faults.{FirstWrong}

pub first_wrong_from : (P : ℕ → Type 0) (m : ℕ) (r : Option ℕ) → MatchOption r ((k : ℕ) → 0 ≤ k → k < m → P k) (λ i. (0 ≤ i) × (i < m) × (P i → ⊥) × ((k : ℕ) → 0 ≤ k → k < i → P k)) → MatchOption r ((k : ℕ) → k < m → P k) (FirstWrong P m)
first_wrong_from P m None all = λ k lt. all k (omega arith) lt
first_wrong_from P m (Some i) found = record { within = found.1; wrong = found.2; before = λ k lt. found.3 k (omega arith) lt }

-- what is asked of the elements is what is asked of their numbers
pub first_wrong_in : {X : Type 0} (Q : X → Type 0) (P : ℕ → Type 0) (xs : List X) (d : X) (m : ℕ) → length xs ≡ m → ((i : ℕ) → i < m → (Q (get_or xs i d) → P i) × (P i → Q (get_or xs i d))) → (r : Option ℕ) → MatchOption r (AllWithin Q xs 0 (length xs)) (λ i. (i < length xs) × HoldsAt (λ x. Q x → ⊥) xs i × AllWithin Q xs 0 i) → MatchOption r ((k : ℕ) → k < m → P k) (FirstWrong P m)
first_wrong_in Q P xs d m len same None all = λ k lt. (same k lt).0 (all k d (omega arith) (omega arith))
first_wrong_in Q P xs d m len same (Some i) found =
    let lt : i < m = omega (arith, found.0) in
    record { within = lt; wrong = λ p. found.1 d ((same i lt).1 p); before = λ k below. (same k (omega arith)).0 (found.2 k d (omega arith) below) }
