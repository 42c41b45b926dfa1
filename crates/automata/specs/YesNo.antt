-- Yes and no: byte 0 is no, byte 1 is yes, and other bytes are no verdict.
use Rattle.std.specs.Prelude.{ℕ, Bool, cond, List, Some, None, codes, Option, ◌==◌}
use Rattle.automata.specs.declared.yes_no.YesNo.{YesNo}
use Rattle.automata.specs.declared.yes_no.YesNo.TheVariants.{No, Yes}

abbrev pub byte_of : YesNo → ℕ
byte_of No = 0
byte_of Yes = 1

abbrev pub same_byte : YesNo → YesNo → Bool
same_byte v w = byte_of v == byte_of w

-- the closing verdict
abbrev pub says_no : YesNo
says_no = No

abbrev pub verdict_of_byte : ℕ → Option YesNo
verdict_of_byte b = cond (b == 0) (Some No) (cond (b == 1) (Some Yes) None)

-- how it is printed
abbrev pub spelt : YesNo → List ℕ
spelt No = codes "no"
spelt Yes = codes "yes"
