-- Bytes in front of a file move its parts, and change nothing in them.
use Rattle.std.proofs.Common.{◌≡◌, ℕ, ◌+◌, ◌-◌, ◌*◌, ◌<◌, ◌≤◌, cond, ltb, List, ◌++◌, length, get_or, is_some, Option, unwrap_or, sym, ap, ◌∙◌, subst, arith}
use Rattle.std.proofs.lemmas.List.{get_or-append-add, length-append}
use Rattle.ruleformat.specs.declared.format.Kind.{Kind}
use Rattle.ruleformat.specs.declared.format.Kind.TheVariants.{Dense, Edges}
use Rattle.ruleformat.specs.declared.format.Header.{Header}
use Rattle.ruleformat.specs.declared.format.Edge.{Edge}
use Rattle.ruleformat.specs.Bytes.{two_at, four_at, trailer_place, trailer_of, edge_at}
use Rattle.ruleformat.specs.Layout.{Laid, header_at, header_of, entry_place, verdict_place}
use Rattle.ruleformat.specs.Faults.{InTable, Rises, Right, AllRight, Reads, edge_of, Good}
use Rattle.ruleformat.specs.EdgeWords.{lead}
use Rattle.ruleformat.specs.Tables.{inside, with_transitions}
use Rattle.ruleformat.specs.Makes.{table_of, NotesUnread}

module _ (u f : List ℕ) where
  at : (p q : ℕ) → p ≡ length u + q → get_or (u ++ f) p 0 ≡ get_or f q 0
  at p q e = ap (λ (i : ℕ). get_or (u ++ f) i 0) e ∙ get_or-append-add u f q 0

  two : (p q : ℕ) → p ≡ length u + q → two_at (u ++ f) p ≡ two_at f q
  two p q e = let a = at p q e in let b = at (p + 1) (q + 1) (omega arith) in omega arith

  four : (p q : ℕ) → p ≡ length u + q → four_at (u ++ f) p ≡ four_at f q
  four p q e = let a = two p q e in let b = two (p + 2) (q + 2) (omega arith) in omega arith

  edge : (p q : ℕ) → p ≡ length u + q → edge_at (u ++ f) p ≡ edge_at f q
  unfolding edge_at
  edge p q e =
      λ i. record { state = two p q e i; first = at (p + 2) (q + 2) (omega arith) i; last = at (p + 3) (q + 3) (omega arith) i; target = two (p + 4) (q + 4) (omega arith) i }

  module _ (long : 16 ≤ length f) where
    place : trailer_place (u ++ f) ≡ length u + trailer_place f
    place = let e = length-append u f in omega arith

    trailer : trailer_of (u ++ f) ≡ trailer_of f
    unfolding trailer_of
    trailer =
        λ i. record {
          transitions = four _ _ place i;
          verdicts = four (trailer_place (u ++ f) + 4) (trailer_place f + 4) (let e = place in omega arith) i;
          states = two (trailer_place (u ++ f) + 8) (trailer_place f + 8) (let e = place in omega arith) i;
          letters = two (trailer_place (u ++ f) + 10) (trailer_place f + 10) (let e = place in omega arith) i;
          start = two (trailer_place (u ++ f) + 12) (trailer_place f + 12) (let e = place in omega arith) i;
          kind = at (trailer_place (u ++ f) + 14) (trailer_place f + 14) (let e = place in omega arith) i;
          version = at (trailer_place (u ++ f) + 15) (trailer_place f + 15) (let e = place in omega arith) i;
        }

    -- the header with its places moved
    abbrev moved : Kind → Header
    moved kd = header_at (length u + trailer_place f) kd (trailer_of f)

    header : (kd : Kind) → header_of (u ++ f) kd ≡ moved kd
    header kd = λ i. header_at (place i) kd (trailer i)

    module _ (kd : Kind) (laid : Laid (length f) kd (trailer_of f)) where
      entry : (i : ℕ) → entry_place kd (moved kd) i ≡ length u + entry_place kd (header_of f kd) i
      entry i = omega (arith, laid.inside)

      verdict : (s : ℕ) → verdict_place (moved kd) s ≡ length u + verdict_place (header_of f kd) s
      verdict s = omega (arith, laid.inside, laid.entries_close)

  edges_same : (long : 16 ≤ length f) → Laid (length f) Edges (trailer_of f) → (i : ℕ) → edge_of (u ++ f) (moved long Edges) i ≡ edge_of f (header_of f Edges) i
  edges_same long laid i = edge _ _ (entry long Edges laid i)

  right : (long : 16 ≤ length f) (kd : Kind) → Laid (length f) kd (trailer_of f) → (i : ℕ) → Right kd f (header_of f kd) i → Right kd (u ++ f) (moved long kd) i
  right long Dense laid i r = let e = two _ _ (entry long Dense laid i) in omega (arith, e, r)
  right long Edges laid i r =
      let e = edges_same long laid in (
        subst (λ (x : Edge). InTable (header_of f Edges) x) (sym (e i)) r.0,
        λ pos. subst (λ (x : Edge). Rises x (edge_of (u ++ f) (moved long Edges) i)) (sym (e (i - 1))) (subst (λ (x : Edge). Rises (edge_of f (header_of f Edges) (i - 1)) x) (sym (e i)) (r.1 pos)),
      )

  module _ {V : Type 0} (reads : ℕ → Option V) (closing : V) (w : Option Kind) where
    stays_good : (kd : Kind) → Good reads w f kd → Good reads w (u ++ f) kd
    stays_good kd g =
        let long = g.headed.long in
        let laid = g.headed.laid in
        let same = trailer long in
        record {
          headed = record {
            long = let e = length-append u f in omega arith;
            known = rw same g.headed.known;
            ranged = rw same g.headed.ranged;
            laid = rw same (record { verdicts_close = laid.verdicts_close; entries_close = laid.entries_close; inside = let e = length-append u f in omega (arith, laid.inside) });
          };
          entries = subst (λ (h : Header). AllRight kd (u ++ f) h) (sym (header long kd)) (λ i lt. right long kd laid i (g.entries i lt));
          verdicts = subst (λ (h : Header). (s : ℕ) → s < h.states → Reads reads (u ++ f) h s) (sym (header long kd)) (λ s lt. ap (λ (b : ℕ). is_some (reads b)) (at _ _ (verdict long kd laid s)) ∙ g.verdicts s lt);
        }

    -- tables with the same transitions are the same
    same_table : (kd : Kind) (long : 16 ≤ length f) → Laid (length f) kd (trailer_of f) → (next next' : ℕ → ℕ → ℕ) → ((s a : ℕ) → next s a ≡ next' s a) → with_transitions next reads closing (u ++ f) (moved long kd) ≡ with_transitions next' reads closing f (header_of f kd)
    same_table kd long laid next next' e =
        λ i. record {
          n = (trailer_of f).states;
          k = (trailer_of f).letters;
          start = (trailer_of f).start;
          next = λ s a. inside (header_of f kd) s a (e s a i);
          verdict = λ s. cond (ltb s (trailer_of f).states) (unwrap_or (reads (at _ _ (verdict long kd laid s) i)) closing) closing;
        }

    means_same : (kd : Kind) (long : 16 ≤ length f) → Laid (length f) kd (trailer_of f) → table_of kd reads closing (u ++ f) (moved long kd) ≡ table_of kd reads closing f (header_of f kd)
    means_same Dense long laid = same_table Dense long laid _ _ (λ s a. two _ _ (entry long Dense laid (s * (trailer_of f).letters + a)))
    means_same Edges long laid =
        same_table Edges long laid _ _ (λ s a. ap (λ (es : ℕ → Edge). lead es (header_of f Edges).entries s a) (λ i j. edges_same long laid j i))

pub unread : {V : Type 0} (reads : ℕ → Option V) (closing : V) → NotesUnread reads closing
unread reads closing u f w kd g =
    let long = g.headed.long in
    (stays_good u f reads closing w kd g, ap (table_of kd reads closing (u ++ f)) (header u f long kd) ∙ means_same u f reads closing w kd long g.headed.laid)
