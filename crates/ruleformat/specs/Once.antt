-- That the entries of a file are right, and that an index is the one of its edges, can be known in one way only.
use Rattle.std.specs.Prelude.{ℕ, List}
use mathlib.Core.Logic.{∥∥₁_elim}
use Rattle.std.specs.Coded.{le_prop}
use Rattle.ruleformat.specs.declared.format.Kind.{Kind}
use Rattle.ruleformat.specs.declared.format.Kind.TheVariants.{Dense, Edges}
use Rattle.ruleformat.specs.declared.format.Header.{Header}
use Rattle.ruleformat.specs.Faults.{AllRight}
use Rattle.ruleformat.specs.EdgeWords.{Indexed}

pub AllRight-prop : (kd : Kind) (f : List ℕ) (h : Header) → IsProp (AllRight kd f h)
AllRight-prop Dense f h = λ x y t i lt. le_prop (x i lt) (y i lt) t
AllRight-prop Edges f h =
    λ x y t i lt. (
      (le_prop (x i lt).0.0 (y i lt).0.0 t, le_prop (x i lt).0.1 (y i lt).0.1 t, le_prop (x i lt).0.2 (y i lt).0.2 t, le_prop (x i lt).0.3 (y i lt).0.3 t),
      λ pos. (le_prop ((x i lt).1 pos).0 ((y i lt).1 pos).0 t, λ same. le_prop (((x i lt).1 pos).1 same) (((y i lt).1 pos).1 same) t),
    )

pub Indexed-prop : (f : List ℕ) (h : Header) (firsts : List ℕ) → IsProp (Indexed f h firsts)
Indexed-prop f h firsts =
    λ x y t s le. (
      le_prop (x s le).0 (y s le).0 t,
      λ i lt. (λ low. le_prop (((x s le).1 i lt).0 low) (((y s le).1 i lt).0 low) t, λ small. le_prop (((x s le).1 i lt).1 small) (((y s le).1 i lt).1 small) t),
    )

pub edges_out : (f : List ℕ) (h : Header) → ∥ AllRight Edges f h ∥₁ → AllRight Edges f h
edges_out f h e = ∥∥₁_elim e (AllRight-prop Edges f h) (λ x. x)

pub index_out : (f : List ℕ) (h : Header) (firsts : List ℕ) → ∥ Indexed f h firsts ∥₁ → Indexed f h firsts
index_out f h firsts e = ∥∥₁_elim e (Indexed-prop f h firsts) (λ x. x)
