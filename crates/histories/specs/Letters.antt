-- How a token is read as a letter.
use Rattle.std.specs.Prelude.{ℕ, ◌+◌, ◌-◌, ◌*◌, cond, List, [], ◌∷◌, Ok, Err, Result, nat_lt}
use Rattle.std.specs.Str.{all_ascii_digits}
use Rattle.histories.specs.declared.token.TokenFault.{TokenFault}
use Rattle.histories.specs.declared.token.TokenFault.TheVariants.{NotBelow, NoNumber}

-- The number that digits write, behind those of n.
abbrev pub value_after : ℕ → List ℕ → ℕ
value_after n [] = n
value_after n (c ∷ cs) = value_after (n * 10 + (c - 48)) cs

-- The number that digits write. Zeros in front do not count, and there is no largest number.
abbrev pub value : List ℕ → ℕ
value token = value_after 0 token

-- A token of digits is a number, and a number below k is a letter of k.
abbrev pub letter_of : ℕ → List ℕ → Result ℕ TokenFault
letter_of k token = cond (all_ascii_digits token) (cond (nat_lt (value token) k) (Ok (value token)) (Err NotBelow)) (Err NoNumber)
