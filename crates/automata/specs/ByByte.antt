-- The laws of verdicts that are the same if their bytes are equal.
use Rattle.std.specs.Prelude.{◌≡◌, ℕ, ◌<◌, true, Some, Option, ◌==◌, nat_eq, refl}
use Rattle.std.proofs.Common.{sym, ◌∙◌}
use Rattle.std.proofs.lemmas.Bool.{eqb-true, eq-eqb}
use Rattle.automata.specs.Verdicts.{Laws}

-- sameness by a number is an equivalence
module _ {V : Type 0} (code : V → ℕ) where
  pub by_refl : (v : V) → (code v == code v) ≡ true
  by_refl v = eq-eqb (code v) (code v) refl

  pub by_sym : (v w : V) → (code v == code w) ≡ true → (code w == code v) ≡ true
  by_sym v w e = eq-eqb (code w) (code v) (sym (eqb-true (code v) (code w) e))

  pub by_trans : (v w x : V) → (code v == code w) ≡ true → (code w == code x) ≡ true → (code v == code x) ≡ true
  by_trans v w x e f = eq-eqb (code v) (code x) (eqb-true (code v) (code w) e ∙ eqb-true (code w) (code x) f)

pub laws_by_byte : {V : Type 0} (code : V → ℕ) (reads : ℕ → Option V) → ((v : V) → code v < 256) → ((v : V) → (w : V) × (reads (code v) ≡ Some w) × ((code v == code w) ≡ true)) → ((b : ℕ) (v : V) → b < 256 → reads b ≡ Some v → code v ≡ b) → Laws (λ v w. nat_eq (code v) (code w)) code reads
laws_by_byte code reads fits back only = record {
  reflexive = by_refl code;
  symmetric = by_sym code;
  transitive = by_trans code;
  one_byte = fits;
  same_bytes = λ v w e. eqb-true (code v) (code w) e;
  reads_back = back;
  reads_only = only;
}
