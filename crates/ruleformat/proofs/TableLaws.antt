-- The tables of good files are automata.
use Rattle.std.proofs.Common.{◌≡◌, ℕ, ◌+◌, ◌*◌, ◌<◌, ◌&&◌, ltb, List, Option, refl, sym, ap, ◌∙◌, subst, mul_comm, arith}
use Rattle.std.proofs.lemmas.Nat.{mul-add-lt}
use Rattle.std.proofs.lemmas.Bool.{cond_both, cond-true, cond-false, and_left, and_right, and_from, le-ltb, lt-ltb}
use Rattle.automata.specs.Meaning.{Meaning, Sound}
use Rattle.ruleformat.specs.declared.format.Header.{Header}
use Rattle.ruleformat.specs.declared.format.Kind.{Kind}
use Rattle.ruleformat.specs.declared.format.Kind.TheVariants.{Dense, Edges}
use Rattle.ruleformat.specs.Faults.{AllRight, edge_of}
use Rattle.ruleformat.specs.EdgeWords.{lead, Leads}
use Rattle.ruleformat.specs.Tables.{InRanges, inside, target, with_transitions, dense_table, edge_table}
use Rattle.ruleformat.specs.Layout.{header_of}
use Rattle.ruleformat.specs.Makes.{table_of, Makes, FollowsEdges}
use Rattle.ruleformat.proofs.Finding.{lead_within, lead_leads}

-- a place in rows of k
pub row_place : (s n a k : ℕ) → s < n → a < k → s * k + a < n * k
row_place s n a k p q = omega (arith, mul-add-lt s k a n p q, mul_comm n k)

module _ {V : Type 0} (reads : ℕ → Option V) (closing : V) (f : List ℕ) (h : Header) (ranged : InRanges h) where
  -- transitions that stay within the states make an automaton
  pub transitions_sound : (next : ℕ → ℕ → ℕ) → ((s a : ℕ) → s < h.states → a < h.letters → next s a < h.states) → Sound closing (with_transitions next reads closing f h)
  transitions_sound next stays = record {
    some_state = ranged.0;
    states_fit = ranged.1;
    some_letter = ranged.2;
    letters_fit = ranged.3;
    start_within = ranged.4;
    next_within = λ s a p q. cond_both (ltb s h.states && ltb a h.letters) (next s a) 0 (λ t. t < h.states) (λ _. stays s a p q) (λ _. omega arith);
    next_past_states = λ s a p. cond-false _ _ 0 (and_left _ _ (le-ltb s _ p));
    next_past_letters = λ s a p. cond-false _ _ 0 (and_right _ _ (le-ltb a _ p));
    verdict_past = λ s p. cond-false _ _ closing (le-ltb s _ p);
  }

  pub dense_sound : h.entries ≡ h.states * h.letters → AllRight Dense f h → Sound closing (dense_table reads closing f h)
  dense_sound full right = transitions_sound (target f h) (λ s a p q. right (s * h.letters + a) (let place = row_place s h.states a h.letters p q in omega arith))

  pub edges_sound : AllRight Edges f h → Sound closing (edge_table reads closing f h)
  edges_sound right = transitions_sound (lead (edge_of f h) h.entries) (λ s a p q. lead_within f h right s a p)

  -- the table of a good file is an automaton
  pub table_sound : (kd : Kind) → h ≡ header_of f kd → AllRight kd f h → Sound closing (table_of kd reads closing f h)
  table_sound Dense said right = dense_sound (subst (λ (x : Header). x.entries ≡ x.states * x.letters) (sym said) refl) right
  table_sound Edges said right = edges_sound right

-- within the ranges, what means a file's edges leads as they do
pub edges_lead : {V : Type 0} (reads : ℕ → Option V) (closing : V) (f : List ℕ) (h : Header) (m : Meaning V) → m ≡ edge_table reads closing f h → AllRight Edges f h → (s a : ℕ) → s < h.states → a < h.letters → Leads f h s a (m.next s a)
edges_lead reads closing f h m is right s a p q =
    let here : m.next s a ≡ inside h s a (lead (edge_of f h) h.entries s a) = ap (λ (x : Meaning _). x.next s a) is in
    let led : inside h s a (lead (edge_of f h) h.entries s a) ≡ lead (edge_of f h) h.entries s a = cond-true _ _ 0 (and_from _ _ (lt-ltb s _ p) (lt-ltb a _ q)) in
    subst (λ (x : ℕ). Leads f h s a x) (sym (here ∙ led)) (lead_leads f h right s a)

-- what is made of an edge list leads as its edges do
pub follows_edges : {V : Type 0} (reads : ℕ → Option V) (closing : V) (f : List ℕ) (m : Meaning V) → Makes Edges reads closing f m → FollowsEdges reads f m
follows_edges reads closing f m makes good = edges_lead reads closing f (header_of f Edges) m (makes.0 good) good.entries
