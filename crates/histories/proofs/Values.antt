-- Reading digits, with a number that stops at 255.
use Rattle.std.proofs.Common.{◌≡◌, ℕ, ◌+◌, ◌-◌, ◌*◌, ◌<◌, ◌≤◌, min, List, [], ◌∷◌, length, get_or, drop, sym, ap, ◌∙◌, ⊎_elim, arith}
use Rattle.std.proofs.lemmas.List.{at_drop_more}
use Rattle.std.proofs.lemmas.Bool.{cases_lt}
use Rattle.histories.specs.Letters.{value_after}

-- more digits make a number no smaller
grows : (n : ℕ) (cs : List ℕ) → n ≤ value_after n cs
grows n [] = omega arith
grows n (c ∷ cs) = let h = grows (n * 10 + (c - 48)) cs in omega arith

-- a number that stops at 255 is the number as far as one below 255 goes
pub stopped : (n m : ℕ) (cs : List ℕ) → m ≡ min n 255 → min (value_after m cs) 255 ≡ min (value_after n cs) 255
stopped n m cs e =
    ⊎_elim
    (λ h. ap (λ (x : ℕ). min (value_after x cs) 255) (e ∙ omega arith))
    (λ h. let a = grows m cs in let b = grows n cs in omega arith)
    (cases_lt n 255)

-- one digit more
pub digit_more : (token : List ℕ) (i n m : ℕ) → i < length token → m ≡ min (n * 10 + (get_or token i 0 - 48)) 255 → min (value_after n (drop i token)) 255 ≡ min (value_after m (drop (i + 1) token)) 255
digit_more token i n m h e = ap (λ (x : ℕ). min x 255) (at_drop_more (value_after n) token i 0 h) ∙ sym (stopped _ m (drop (i + 1) token) e)
