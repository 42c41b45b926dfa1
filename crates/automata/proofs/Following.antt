-- Following a word, a letter at a time.
use Rattle.std.proofs.Common.{◌≡◌, ℕ, ◌+◌, ◌<◌, ◌≤◌, List, [], ◌∷◌, ◌++◌, length, get_or, take, sym, refl, ap, ◌∙◌, arith, take_all}
use Rattle.std.proofs.ByRecursion.{All-from_get_or}
use Rattle.std.proofs.lemmas.List.{take_more}
use Rattle.automata.specs.Meaning.{Meaning, Sound}
use Rattle.automata.specs.Words.{Word, follow}

module _ {V : Type 0} (m : Meaning V) where
  pub follow-append : (s : ℕ) (u w : List ℕ) → follow m s (u ++ w) ≡ follow m (follow m s u) w
  follow-append s [] w = refl
  follow-append s (a ∷ u) w = follow-append (m.next s a) u w

  -- one letter more
  pub follow_step : (f : ℕ) (w : List ℕ) (i s t : ℕ) → i < length w → s ≡ follow m f (take i w) → t ≡ m.next s (get_or w i 0) → t ≡ follow m f (take (i + 1) w)
  follow_step f w i s t h before here =
      here ∙ ap (λ x. m.next x (get_or w i 0)) before ∙ sym (ap (follow m f) (take_more w i 0 h) ∙ follow-append f (take i w) (get_or w i 0 ∷ []))

  -- all letters
  pub follow_end : (f : ℕ) (w : List ℕ) (i s : ℕ) → length w ≤ i → s ≡ follow m f (take i w) → s ≡ follow m f w
  follow_end f w i s h before = before ∙ ap (follow m f) (take_all i w h)

-- numbers that are each below k are a word
pub letters_word : (k : ℕ) (w : List ℕ) (i : ℕ) → length w ≤ i → ((j : ℕ) → j < i → get_or w j 0 < k) → Word k w
letters_word k w i end below = All-from_get_or (λ a. a < k) w 0 (λ j h. below j (omega arith))

-- a word stays within the states
pub follow_within : {V : Type 0} {closing : V} (m : Meaning V) → Sound closing m → (s : ℕ) (w : List ℕ) → Word m.k w → s < m.n → follow m s w < m.n
follow_within m h s [] l p = p
follow_within m h s (a ∷ w) l p = follow_within m h (m.next s a) w l.1 (h.next_within s a p l.0)
