-- What is found in the edges of a good file.
use Rattle.std.proofs.Common.{◌≡◌, ℕ, zero, suc, ◌+◌, ◌<◌, ◌≤◌, List, sym, ◌∙◌, ap, subst, ⊎_elim, arith}
use Rattle.std.proofs.lemmas.Bool.{cases_lt, cases_order, cond_both}
use Rattle.ruleformat.specs.declared.format.Edge.{Edge}
use Rattle.ruleformat.specs.declared.format.Header.{Header}
use Rattle.ruleformat.specs.declared.format.Kind.TheVariants.{Edges}
use Rattle.ruleformat.specs.Faults.{AllRight, edge_of}
use Rattle.ruleformat.specs.EdgeWords.{Lists, Leads, lists, lead, IndexOf}
use Rattle.ruleformat.proofs.Rising.{rises_far, lead_listed, lead_unlisted}

module _ (f : List ℕ) (h : Header) (right : AllRight Edges f h) where
  abbrev es : ℕ → Edge
  es = edge_of f h

  some : (i : ℕ) → i < h.entries → (es i).first ≤ (es i).last
  some i lt = (right i lt).0.2

  pub states_rise : (i j : ℕ) → i ≤ j → j < h.entries → (es i).state ≤ (es j).state
  states_rise i j le lt =
      ⊎_elim (λ low. (rises_far es h.entries some (λ k less. (right k less).1) i j low lt).0) (λ high. let same : i ≡ j = omega arith in let e : (es i).state ≡ (es j).state = ap (λ (k : ℕ). (es k).state) same in omega arith) (cases_lt i j)

  -- the first edge that is of no smaller state is the state's index
  pub index_is : (s first : ℕ) → first ≤ h.entries → ((i : ℕ) → i < first → (es i).state < s) → ((i : ℕ) → first ≤ i → i < h.entries → s ≤ (es i).state) → IndexOf f h s first
  index_is s first le before behind = (
    le,
    λ i lt. (before i, λ small. ⊎_elim (λ low. low) (λ high. absurd (let large = behind i high lt in omega arith)) (cases_lt i first)),
  )

  -- the edges of state s are those from its index to that of s + 1
  module _ (s p q : ℕ) (from : IndexOf f h s p) (to : IndexOf f h (s + 1) q) where
    pub forward : p ≤ q
    forward =
        ⊎_elim (λ lt. absurd (let l = from.0 in let below = (from.1 q (omega arith)).0 lt in let in_front = (to.1 q (omega arith)).1 (omega arith) in omega arith)) (λ le. le) (cases_lt q p)

    pub of_state : (i : ℕ) → p ≤ i → i < q → (es i).state ≡ s
    of_state i low high =
        let l = to.0 in
        let below = (to.1 i (omega arith)).0 high in
        ⊎_elim (λ lt. absurd (let in_front = (from.1 i (omega arith)).1 lt in omega arith)) (λ le. omega arith) (cases_lt (es i).state s)

    from_index : (i : ℕ) → i < h.entries → (es i).state ≡ s → p ≤ i
    from_index i lt e = ⊎_elim (λ low. absurd (let below = (from.1 i lt).0 low in omega arith)) (λ le. le) (cases_lt i p)

    to_index : (i : ℕ) → i < h.entries → (es i).state ≡ s → i < q
    to_index i lt e = (to.1 i lt).1 (omega arith)

    -- and their letters do not overlap
    pub letters_rise : (i j : ℕ) → p ≤ i → i < j → j < q → (es i).last < (es j).first
    letters_rise i j low lt high =
        let l = to.0 in (rises_far es h.entries some (λ k less. (right k less).1) i j lt (omega arith)).1 (of_state i low (omega arith) ∙ sym (of_state j (omega arith) high))

    pub lasts_rise : (i j : ℕ) → p ≤ i → i ≤ j → j < q → (es i).last ≤ (es j).last
    lasts_rise i j low le high =
        let l = to.0 in
        let least = some j (omega arith) in
        ⊎_elim (λ lt. let gap = letters_rise i j low lt high in omega arith) (λ ge. let same : i ≡ j = omega arith in let e : (es i).last ≡ (es j).last = ap (λ (k : ℕ). (es k).last) same in omega arith) (cases_lt i j)

    -- no edge lists a letter behind which each edge of the state ends, or the first one that does not begins
    pub in_gap : (a found : ℕ) → ((i : ℕ) → p ≤ i → i < found → i < q → (es i).last < a) → (p ≤ found → found < q → a < (es found).first) → p ≤ found → (i : ℕ) → i < h.entries → Lists (es i) s a → ⊥
    in_gap a found before gap low i lt l =
        let start = from_index i lt l.of_state in
        let end = to_index i lt l.of_state in
        ⊎_elim (λ e. let u = gap low (subst (λ (k : ℕ). k < q) e end) in let v = subst (λ (k : ℕ). (es k).first ≤ a) e l.from_first in omega arith)
        (λ o. ⊎_elim (λ front. let u = before i start front end in omega (arith, l.to_last)) (λ back. let g = gap low (omega arith) in let t = to.0 in let least = some found (omega arith) in let u = letters_rise found i low back end in omega (arith, l.from_first)) o)
        (cases_order i found)

    -- the first edge that does not end before a letter lists it, if it does not begin behind it
    pub found_lists : (a found : ℕ) → p ≤ found → found < q → a ≤ (es found).last → (es found).first ≤ a → Lists (es found) s a
    found_lists a found low high last first = record { of_state = of_state found low high; from_first = first; to_last = last }

  pub leads_to : (s a i : ℕ) → i < h.entries → Lists (es i) s a → (es i).target ≡ lead es h.entries s a
  leads_to s a i lt l = sym (lead_listed es h.entries some (λ j less. (right j less).1) s a i lt l)

  pub stays_at : (s a : ℕ) → ((i : ℕ) → i < h.entries → Lists (es i) s a → ⊥) → s ≡ lead es h.entries s a
  stays_at s a none = sym (lead_unlisted es s a h.entries none)

  -- a listed letter leads to the target, an unlisted one leaves the state
  pub lead_leads : (s a : ℕ) → Leads f h s a (lead es h.entries s a)
  lead_leads s a = record { listed = λ i lt l. sym (leads_to s a i lt l); unlisted = λ none. sym (stays_at s a none) }

  -- and stays within the states
  pub lead_within : (s a : ℕ) → s < h.states → lead es h.entries s a < h.states
  lead_within s a p = within_below h.entries (omega arith)
    where
      within_below : (n : ℕ) → n ≤ h.entries → lead es n s a < h.states
      within_below zero le = p
      within_below (suc n) le = cond_both (lists (es n) s a) (es n).target (lead es n s a) (λ (t : ℕ). t < h.states) (λ _. (right n (omega arith)).0.1) (λ _. within_below n (omega arith))
