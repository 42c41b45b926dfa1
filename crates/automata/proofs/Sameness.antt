-- By the laws of verdicts two are the same exactly if their bytes are equal.
use Rattle.std.proofs.Common.{◌≡◌, ℕ, Bool, true, Option, ◌==◌, sym, ◌∙◌, subst, ⊎_elim}
use Rattle.std.proofs.lemmas.Bool.{eqb-true, eq-eqb, cases_Bool}
use Rattle.automata.specs.Verdicts.{Laws}

module _ {V : Type 0} {alike : V → V → Bool} {code : V → ℕ} {reads : ℕ → Option V} (laws : Laws alike code reads) where
  -- equal bytes read back as one verdict, which both are the same as
  alike_by_bytes : (v w : V) → code v ≡ code w → alike v w ≡ true
  alike_by_bytes v w e =
      let back = laws.reads_back v in
      let other = laws.reads_back w in
      let one : back.0 ≡ other.0 = (let p = back.1 in let q = other.1 in cc) in
      laws.transitive v other.0 w (subst (λ x. alike v x ≡ true) one back.2) (laws.symmetric w other.0 other.2)

  pub same_is : (v w : V) → (code v == code w) ≡ alike v w
  same_is v w =
      ⊎_elim (λ t. eq-eqb (code v) (code w) (laws.same_bytes v w t) ∙ sym t)
      (λ f. ⊎_elim (λ t. let a = alike_by_bytes v w (eqb-true (code v) (code w) t) in cc) (λ g. g ∙ sym f) (cases_Bool (code v == code w)))
      (cases_Bool (alike v w))
