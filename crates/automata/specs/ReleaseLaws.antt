-- The laws of a decision with a reason.
use Rattle.std.specs.Prelude.{◌≡◌, ℕ, ◌/◌, ◌%◌, ◌<◌, ◌≤◌, true, ◌⊎◌, Some, None}
use Rattle.std.proofs.Common.{sym, ap, ◌∙◌, inl, inr, ⊎_elim, arith}
use mathlib.Core.HLevel.{is_prop→PathP}
use Rattle.std.proofs.Math.Bridge.{le_prop}
use Rattle.std.proofs.lemmas.Bool.{eq-eqb}
use Rattle.automata.specs.declared.release.Decision.{Decision}
use Rattle.automata.specs.declared.release.Decision.TheVariants.{Refuse, Hold, Cut}
use Rattle.automata.specs.declared.release.Release.{Release}
use Rattle.automata.specs.Verdicts.{Laws}
use Rattle.automata.specs.Release.{decision_number, byte_of, same_byte, release_of, verdict_of_byte}
use Rattle.automata.specs.ByByte.{laws_by_byte}

number_fits : (d : Decision) → decision_number d < 3
number_fits Refuse = omega arith
number_fits Hold = omega arith
number_fits Cut = omega arith

fits : (v : Release) → byte_of v < 256
fits v = omega (arith, v.small, number_fits v.decision)

-- two verdicts with one decision and one reason are one
pub release_eq : (v w : Release) → v.decision ≡ w.decision → v.reason ≡ w.reason → v ≡ w
release_eq v w p q = λ i. record { decision = p i; reason = q i; small = is_prop→PathP (λ j. q j ≤ 63) (λ j. le_prop) v.small w.small i }

-- a byte with the remainder of a decision reads as that decision
reads_at : (d : Decision) (b : ℕ) → b % 4 ≡ decision_number d → verdict_of_byte b ≡ Some (release_of d b)
reads_at Refuse b h = rw h
reads_at Hold b h = rw h
reads_at Cut b h = rw h

reads_none : (b : ℕ) → b % 4 ≡ 3 → verdict_of_byte b ≡ None
reads_none b h = rw h

-- a byte has the remainder of a decision, or 3
remainder : (b : ℕ) → ((d : Decision) × (b % 4 ≡ decision_number d)) ⊎ (b % 4 ≡ 3)
remainder b =
    ⊎_elim (λ e. inl (Refuse, e)) (⊎_elim (λ e. inl (Hold, e)) (⊎_elim (λ e. inl (Cut, e)) inr)) (four (b % 4) (omega arith))
  where
    four : (r : ℕ) → r < 4 → (r ≡ 0) ⊎ ((r ≡ 1) ⊎ ((r ≡ 2) ⊎ (r ≡ 3)))
    four r h = grind arith

back : (v : Release) → (w : Release) × (verdict_of_byte (byte_of v) ≡ Some w) × (same_byte v w ≡ true)
back v =
    let low = number_fits v.decision in
    let fits = v.small in
    let b = byte_of v in
    (release_of v.decision b, reads_at v.decision b (omega (arith, low)), eq-eqb _ _ (omega (arith, low, fits)))

only : (b : ℕ) (v : Release) → b < 256 → verdict_of_byte b ≡ Some v → byte_of v ≡ b
only b v h e =
    ⊎_elim
    (λ p. let is : v ≡ release_of p.0 b = (let f = reads_at p.0 b p.1 in cc) in ap byte_of is ∙ omega (arith, p.1))
    (λ r. let f = reads_none b r in let z : ◌≡◌ {A = ℕ} 0 1 = cc in omega arith)
    (remainder b)

pub release_laws : Laws same_byte byte_of verdict_of_byte
release_laws = laws_by_byte byte_of verdict_of_byte fits back only

-- what is read of a byte with the remainder of a decision
pub read_is : (d : Decision) (b : ℕ) (v : Release) → b < 256 → b % 4 ≡ decision_number d → v.decision ≡ d → v.reason ≡ b / 4 → Some v ≡ verdict_of_byte b
read_is d b v h m p q = ap Some (release_eq v (release_of d b) p (omega arith)) ∙ sym (reads_at d b m)
