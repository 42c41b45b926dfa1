-- In edges that rise, a state and a letter are listed at most once.
use Rattle.std.proofs.Common.{◌≡◌, ℕ, zero, suc, ◌+◌, ◌-◌, ◌<◌, ◌≤◌, true, false, sym, refl, ap, ◌∙◌, subst, ⊎_elim, arith}
use Rattle.std.proofs.lemmas.Bool.{cases_order, cases_Bool}
use Rattle.std.proofs.lemmas.Bool.Decides.{nat_tests}
use Rattle.ruleformat.specs.declared.format.Edge.{Edge}
use Rattle.ruleformat.specs.Faults.{Rises}
use Rattle.ruleformat.specs.EdgeWords.{Lists, lists, lead}

pub lists_true : (e : Edge) (s a : ℕ) → lists e s a ≡ true → Lists e s a
lists_true e s a h = record { of_state = grind (arith, nat_tests); from_first = grind (arith, nat_tests); to_last = grind (arith, nat_tests) }

lists_false : (e : Edge) (s a : ℕ) → lists e s a ≡ false → Lists e s a → ⊥
lists_false e s a h l = let p = l.of_state in let q = l.from_first in let r = l.to_last in grind (arith, nat_tests)

module _ (es : ℕ → Edge) (m : ℕ) (some : (i : ℕ) → i < m → (es i).first ≤ (es i).last) (rise : (i : ℕ) → i < m → 0 < i → Rises (es (i - 1)) (es i)) where
  -- not only neighbours rise
  far : (i d : ℕ) → i + d + 1 < m → Rises (es i) (es (i + d + 1))
  far i zero h = let e : i + 0 + 1 - 1 ≡ i = omega arith in subst (λ (x : ℕ). Rises (es x) (es (i + 0 + 1))) e (rise (i + 0 + 1) h (omega arith))
  far i (suc d) h =
      let j : ℕ = i + d + 1 in
      let e : i + suc d + 1 - 1 ≡ j = omega arith in
      let p = far i d (omega arith) in
      let q = subst (λ (x : ℕ). Rises (es x) (es (i + suc d + 1))) e (rise (i + suc d + 1) h (omega arith)) in
      let o = some j (omega arith) in
      (omega arith, λ same. let u = p.1 (omega arith) in let v = q.1 (omega arith) in omega arith)

  pub rises_far : (i j : ℕ) → i < j → j < m → Rises (es i) (es j)
  rises_far i j lt h =
      let e : i + (j - i - 1) + 1 ≡ j = omega arith in
      subst (λ (x : ℕ). Rises (es i) (es x)) e (far i (j - i - 1) (omega arith))

  apart : (s a i j : ℕ) → i < j → j < m → Lists (es i) s a → Lists (es j) s a → ⊥
  apart s a i j lt h p q =
      let u = (rises_far i j lt h).1 (p.of_state ∙ sym q.of_state) in
      omega (arith, p.to_last, q.from_first)

  pub once : (s a i j : ℕ) → i < m → j < m → Lists (es i) s a → Lists (es j) s a → i ≡ j
  once s a i j hi hj p q =
      ⊎_elim (λ e. e) (λ o. ⊎_elim (λ lt. absurd (apart s a i j lt hj p q)) (λ lt. absurd (apart s a j i lt hi q p)) o) (cases_order i j)

  lead_below : (s a i n : ℕ) → i < n → n ≤ m → Lists (es i) s a → lead es n s a ≡ (es i).target
  lead_below s a i zero lt le p = absurd (omega arith)
  lead_below s a i (suc n) lt le p =
      ⊎_elim
      (λ t. rw t (ap (λ (x : ℕ). (es x).target) (once s a n i (omega arith) (omega arith) (lists_true (es n) s a t) p)))
      (λ t.
      rw t (lead_below s a i n
      (⊎_elim (λ e. absurd (lists_false (es n) s a t (subst (λ (x : ℕ). Lists (es x) s a) e p))) (λ o. ⊎_elim (λ l. l) (λ l. absurd (omega arith)) o) (cases_order i n))
      (omega arith)
      p))
      (cases_Bool (lists (es n) s a))

  -- a listed letter leads to the target
  pub lead_listed : (s a i : ℕ) → i < m → Lists (es i) s a → lead es m s a ≡ (es i).target
  lead_listed s a i lt p = lead_below s a i m lt (omega arith) p

-- an unlisted one leaves the state
pub lead_unlisted : (es : ℕ → Edge) (s a n : ℕ) → ((i : ℕ) → i < n → Lists (es i) s a → ⊥) → lead es n s a ≡ s
lead_unlisted es s a zero h = refl
lead_unlisted es s a (suc n) h =
    ⊎_elim (λ t. absurd (h n (omega arith) (lists_true (es n) s a t))) (λ t. rw t (lead_unlisted es s a n (λ i lt. h i (omega arith)))) (cases_Bool (lists (es n) s a))
