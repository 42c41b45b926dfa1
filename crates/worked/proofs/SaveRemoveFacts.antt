-- What the two files mean, by computing, and what words tell of the rule.
use Rattle.std.proofs.Common.{◌≡◌, ℕ, zero, suc, ◌<◌, true, cond, ◌&&◌, ltb, List, [], ◌∷◌, get_or, unwrap_or, refl, arith}
use Rattle.std.proofs.lemmas.Bool.{cond-false, and_left, and_right, le-ltb}
use Rattle.automata.specs.Meaning.{Meaning}
use Rattle.automata.specs.Words.{Word, Reachable, follow}
use Rattle.automata.specs.YesNo.{same_byte, says_no, verdict_of_byte}
use Rattle.automata.specs.declared.yes_no.YesNo.{YesNo}
use Rattle.automata.specs.declared.yes_no.YesNo.TheVariants.{No, Yes}
use Rattle.ruleformat.specs.Bytes.{trailer_of, edge_at}
use Rattle.ruleformat.specs.declared.format.Kind.TheVariants.{Dense, Edges}
use Rattle.ruleformat.specs.declared.format.Header.{Header}
use Rattle.ruleformat.specs.Layout.{header_of, verdict_place}
use Rattle.ruleformat.specs.Faults.{edge_of}
use Rattle.ruleformat.specs.EdgeWords.{lead}
use Rattle.ruleformat.specs.Tables.{target}
use Rattle.worked.specs.SaveRemove.{moves, says, rule, table_file, edges_file, MeansRule, TellsApart}

-- six moves within the ranges, and 0 beyond, are the rule's
moves_from : (next : ℕ → ℕ → ℕ) → next 0 0 ≡ 1 → next 0 1 ≡ 2 → next 1 0 ≡ 0 → next 1 1 ≡ 2 → next 2 0 ≡ 2 → next 2 1 ≡ 2 → (s a : ℕ) → cond (ltb s 3 && ltb a 2) (next s a) 0 ≡ moves s a
moves_from next p q r t u v zero zero = p
moves_from next p q r t u v zero (suc zero) = q
moves_from next p q r t u v zero (suc (suc a)) = cond-false _ (next 0 (suc (suc a))) 0 (and_right (ltb 0 3) _ (le-ltb (suc (suc a)) 2 (omega arith)))
moves_from next p q r t u v (suc zero) zero = r
moves_from next p q r t u v (suc zero) (suc zero) = t
moves_from next p q r t u v (suc zero) (suc (suc a)) = cond-false _ (next 1 (suc (suc a))) 0 (and_right (ltb 1 3) _ (le-ltb (suc (suc a)) 2 (omega arith)))
moves_from next p q r t u v (suc (suc zero)) zero = u
moves_from next p q r t u v (suc (suc zero)) (suc zero) = v
moves_from next p q r t u v (suc (suc zero)) (suc (suc a)) = cond-false _ (next 2 (suc (suc a))) 0 (and_right (ltb 2 3) _ (le-ltb (suc (suc a)) 2 (omega arith)))
moves_from next p q r t u v (suc (suc (suc s))) a = cond-false _ (next (suc (suc (suc s))) a) 0 (and_left _ (ltb a 2) (le-ltb (suc (suc (suc s))) 3 (omega arith)))

-- and so are three verdicts
says_from : (verdict : ℕ → YesNo) → verdict 0 ≡ Yes → verdict 1 ≡ Yes → verdict 2 ≡ No → (s : ℕ) → cond (ltb s 3) (verdict s) No ≡ says s
says_from verdict p q r zero = p
says_from verdict p q r (suc zero) = q
says_from verdict p q r (suc (suc zero)) = r
says_from verdict p q r (suc (suc (suc s))) = cond-false _ (verdict (suc (suc (suc s)))) No (le-ltb (suc (suc (suc s))) 3 (omega arith))

-- meanings with three states and two letters that move and say alike are one
same_rule : (m : Meaning YesNo) → m.n ≡ 3 → m.k ≡ 2 → m.start ≡ 0 → ((s a : ℕ) → m.next s a ≡ moves s a) → ((s : ℕ) → m.verdict s ≡ says s) → m ≡ rule
same_rule m p q r t u = λ i. record { n = p i; k = q i; start = r i; next = λ s a. t s a i; verdict = λ s. u s i }

-- the verdict of a state's byte
byte_says : List ℕ → Header → ℕ → YesNo
byte_says f h s = unwrap_or (verdict_of_byte (get_or f (verdict_place h s) 0)) says_no

pub means_rule : MeansRule
unfolding trailer_of edge_at byte_says
means_rule =
    let table : Header = header_of table_file Dense in
    let edges : Header = header_of edges_file Edges in
    record {
      table = same_rule _ refl refl refl (moves_from (target table_file table) refl refl refl refl refl refl) (says_from (byte_says table_file table) refl refl refl);
      edges = same_rule _ refl refl refl (moves_from (lead (edge_of edges_file edges) edges.entries) refl refl refl refl refl refl) (says_from (byte_says edges_file edges) refl refl refl);
    }

-- letters lead states 0 and 1 to each other, or both to 2
saved_alike : (w : List ℕ) → Word 2 w → (same_byte (says (follow rule 0 w)) (says (follow rule 1 w)) ≡ true) × (same_byte (says (follow rule 1 w)) (says (follow rule 0 w)) ≡ true)
saved_alike [] l = (refl, refl)
saved_alike (zero ∷ w) l = let rest = saved_alike w l.1 in (rest.1, rest.0)
saved_alike (suc zero ∷ w) l = (itself (says (follow rule 2 w)), itself (says (follow rule 2 w)))
  where
    itself : (v : YesNo) → same_byte v v ≡ true
    itself No = refl
    itself Yes = refl
saved_alike (suc (suc a) ∷ w) l = absurd (let low = l.0 in omega arith)

reached : (s : ℕ) → s < 3 → Reachable rule s
reached zero h = record { word = []; letters = tt; ends = refl }
reached (suc zero) h = record { word = 0 ∷ []; letters = (omega arith, tt); ends = refl }
reached (suc (suc zero)) h = record { word = 1 ∷ []; letters = (omega arith, tt); ends = refl }
reached (suc (suc (suc s))) h = absurd (omega arith)

pub tells_apart : TellsApart
tells_apart = record {
  saved = record { same = λ w l. (saved_alike w l).0 };
  removed = record { word = []; letters = tt; differs = refl };
  reached = reached;
}
