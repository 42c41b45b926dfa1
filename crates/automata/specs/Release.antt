-- A decision with a reason: the byte is 4 × reason + decision, and a byte with remainder 3 by 4 is no verdict.
use Rattle.std.specs.Prelude.{◌≡◌, ℕ, ◌+◌, ◌*◌, ◌/◌, ◌%◌, ◌<◌, ◌≤◌, Bool, cond, Some, None, Option, Result, MatchResult, ◌==◌}
use Rattle.std.proofs.Common.{arith}
use Rattle.automata.specs.declared.release.Decision.{Decision}
use Rattle.automata.specs.declared.release.Decision.TheVariants.{Refuse, Hold, Cut}
use Rattle.automata.specs.declared.release.Release.{Release}
use Rattle.automata.specs.declared.number.UnknownNumber.{UnknownNumber}

abbrev pub decision_number : Decision → ℕ
decision_number Refuse = 0
decision_number Hold = 1
decision_number Cut = 2

-- a number is converted to the decision of that number; where it is above 2, the error has the number
abbrev pub DecidesBy : ℕ → Result Decision UnknownNumber → Type 0
DecidesBy n r = MatchResult r (λ d. decision_number d ≡ n) (λ e. (2 < n) × (e.0 ≡ n))

abbrev pub byte_of : Release → ℕ
byte_of v = 4 * v.reason + decision_number v.decision

abbrev pub same_byte : Release → Release → Bool
same_byte v w = byte_of v == byte_of w

pub reason_fits : (b : ℕ) → (b / 4) % 64 ≤ 63
reason_fits b = omega arith

-- a decision with the reason that a byte holds
abbrev pub release_of : Decision → ℕ → Release
release_of d b = record { decision = d; reason = (b / 4) % 64; small = reason_fits b }

-- the closing verdict: refuse, with reason 0
abbrev pub refused : Release
refused = release_of Refuse 0

abbrev pub verdict_of_byte : ℕ → Option Release
verdict_of_byte b =
    cond (b % 4 == 0) (Some (release_of Refuse b)) (
    cond (b % 4 == 1) (Some (release_of Hold b)) (
    cond (b % 4 == 2) (Some (release_of Cut b)) None))
