-- The laws of yes and no.
use Rattle.std.specs.Prelude.{◌≡◌, ℕ, ◌<◌, true, Some, refl}
use Rattle.std.proofs.Common.{arith}
use Rattle.std.proofs.lemmas.Bool.Decides.{nat_tests}
use Rattle.automata.specs.declared.yes_no.YesNo.{YesNo}
use Rattle.automata.specs.declared.yes_no.YesNo.TheVariants.{No, Yes}
use Rattle.automata.specs.Verdicts.{Laws}
use Rattle.automata.specs.YesNo.{byte_of, same_byte, verdict_of_byte}
use Rattle.automata.specs.ByByte.{laws_by_byte}

fits : (v : YesNo) → byte_of v < 256
fits No = omega arith
fits Yes = omega arith

back : (v : YesNo) → (w : YesNo) × (verdict_of_byte (byte_of v) ≡ Some w) × (same_byte v w ≡ true)
back No = (No, refl, refl)
back Yes = (Yes, refl, refl)

only : (b : ℕ) (v : YesNo) → b < 256 → verdict_of_byte b ≡ Some v → byte_of v ≡ b
only b No h e = grind (arith, nat_tests)
only b Yes h e = grind (arith, nat_tests)

pub yes_no_laws : Laws same_byte byte_of verdict_of_byte
yes_no_laws = laws_by_byte byte_of verdict_of_byte fits back only
