-- What is asked of a type of verdicts.
use Rattle.std.specs.Prelude.{◌≡◌, ℕ, ◌<◌, Bool, true, Some, None, Option, Result, MatchResult}
use Rattle.automata.specs.declared.number.UnknownNumber.{UnknownNumber}

-- Sameness is an equivalence. A verdict has one byte, which same verdicts share, and the byte reads back as the same
-- verdict. A byte is read as a verdict only if it is that verdict's byte.
pub record Laws {V : Type 0} (alike : V → V → Bool) (code : V → ℕ) (reads : ℕ → Option V) : Type 0 where
  pub reflexive : (v : V) → alike v v ≡ true
  pub symmetric : (v w : V) → alike v w ≡ true → alike w v ≡ true
  pub transitive : (v w x : V) → alike v w ≡ true → alike w x ≡ true → alike v x ≡ true
  pub one_byte : (v : V) → code v < 256
  pub same_bytes : (v w : V) → alike v w ≡ true → code v ≡ code w
  pub reads_back : (v : V) → (w : V) × (reads (code v) ≡ Some w) × (alike v w ≡ true)
  pub reads_only : (b : ℕ) (v : V) → b < 256 → reads b ≡ Some v → code v ≡ b

-- A byte is converted to the verdict that it reads as; where it is no verdict, the error has the byte.
abbrev pub Converts : {V : Type 0} → (ℕ → Option V) → ℕ → Result V UnknownNumber → Type 0
Converts reads byte r = MatchResult r (λ v. reads byte ≡ Some v) (λ e. (reads byte ≡ None) × (e.0 ≡ byte))
