-- What is found in the edges of a good file of that kind.
use Rattle.std.proofs.Common.{◌≡◌, ℕ, ◌+◌, ◌-◌, ◌<◌, ◌≤◌, Bool, ltb, true, false, List, [], length, get_or, sym, ap, ◌∙◌, subst, arith}
use Rattle.std.proofs.lemmas.Bool.{ltb-true, ltb-false}
use Rattle.std.specs.List.{between}
use Rattle.std.specs.Borrow.{Bor}
use Rattle.std.specs.Fn.{ComputesKey}
use denote.Param.Members.{Mut, Called}
use Rattle.std.specs.List.Sorted.{IsNonDecreasingBy, IsPartitionPoint, IsPartitionedBy}
use Rattle.std.proofs.lemmas.List.Sorted.{IsPartitionPoint-from_clause, IsPartitionedBy-ltb}
use Rattle.std.proofs.lemmas.List.Edits.{get_or-between, length-between}
use Rattle.ruleformat.specs.declared.format.Edge.{Edge}
use Rattle.ruleformat.specs.declared.format.Header.{Header}
use Rattle.ruleformat.specs.declared.format.Kind.{Kind}
use Rattle.ruleformat.specs.declared.format.Kind.TheVariants as kinds
use Rattle.ruleformat.specs.Bytes.{edge_at}
use Rattle.ruleformat.specs.Layout.{Closes}
use Rattle.ruleformat.specs.Faults.{AllRight, edge_of}
use Rattle.ruleformat.specs.EdgeWords.{IndexOf, edge_bytes}
use Rattle.ruleformat.specs.Tables.{transitions_of}
use Rattle.ruleformat.proofs.Finding.{states_rise, index_is, forward, lasts_rise, in_gap, found_lists, leads_to, stays_at}
use Rattle.ruleformat.proofs.Chunks.{length-chunks, edge_in}
use Rattle.rulefile.specs.declared.good_file.GoodFile.{GoodFile}
use Rattle.rulefile.specs.declared.edges.Edges.{Edges}

-- the state and the last letter of the edge in six bytes
abbrev state_in : List ℕ → ℕ
state_in b = (edge_at b 0).state

abbrev last_in : List ℕ → ℕ
last_in b = (edge_at b 0).last

-- where the numbers below n end in bytes by which they rise, as `partition_point` finds it
module _ (key : List ℕ → ℕ) (edges : List (List ℕ)) (rise : IsNonDecreasingBy key edges) (n r : ℕ) {F : Type 0} {c : Mut F (Bor (List ℕ) × Unit {0}) Bool} {by : F}
    (clause : (q : List ℕ → Bool) → ComputesKey c q by → IsPartitionedBy q edges → IsPartitionPoint (λ b. q b ≡ true) (λ b. q b ≡ false) edges r)
    (answers : (x : Bor (List ℕ) × Unit {0}) (b : Bool) (by' : F) → Called c by x b by' → (b ≡ ltb (key x.0.now) n) × (by' ≡ by)) where
  point : IsPartitionPoint (λ b. ltb (key b) n ≡ true) (λ b. ltb (key b) n ≡ false) edges r
  point = IsPartitionPoint-from_clause (λ b. ltb (key b) n) edges r clause (IsPartitionedBy-ltb key edges n rise) answers

  below : (i : ℕ) (d : List ℕ) → i < r → key (get_or edges i d) < n
  below i d lt = ltb-true _ _ (point.0 i d (omega arith) lt)

  above : (i : ℕ) (d : List ℕ) → r ≤ i → i < length edges → n ≤ key (get_or edges i d)
  above i d le lt = ltb-false _ _ (point.1 i d le lt)

module _ (g : GoodFile) (kind : g.header.kind ≡ kinds.Edges) where
  abbrev es : ℕ → Edge
  es = edge_of g.file.now g.header

  edges_close : Closes (length g.file.now) kinds.Edges g.header
  edges_close = subst (λ (k : Kind). Closes (length g.file.now) k g.header) kind g.closes

  edges_right : AllRight kinds.Edges g.file.now g.header
  edges_right = subst (λ (k : Kind). AllRight k g.file.now g.header) kind g.right

  module _ (edges : List (List ℕ)) (all : edges ≡ edge_bytes g.file.now g.header) where
    count : length edges ≡ g.header.entries
    count = ap length all ∙ length-chunks 6 g.header.entries _

    at : (i : ℕ) (d : List ℕ) → i < g.header.entries → edge_at (get_or edges i d) 0 ≡ es i
    at i d lt = ap (λ (bs : List (List ℕ)). edge_at (get_or bs i d) 0) all ∙ edge_in g.file.now g.header edges_close i d lt

    state_at : (i : ℕ) (d : List ℕ) → i < g.header.entries → state_in (get_or edges i d) ≡ (es i).state
    state_at i d lt = ap (λ (e : Edge). e.state) (at i d lt)

    in_order : IsNonDecreasingBy state_in edges
    in_order i j d le lt =
        let long = count in
        let r = states_rise g.file.now g.header edges_right i j le (omega arith) in
        omega (arith, state_at i d (omega arith), state_at j d (omega arith))

    -- where the edges of smaller states end is a state's index
    pub indexes : (s r : ℕ) {F : Type 0} {c : Mut F (Bor (List ℕ) × Unit {0}) Bool} {by : F}
        → ((q : List ℕ → Bool) → ComputesKey c q by → IsPartitionedBy q edges → IsPartitionPoint (λ b. q b ≡ true) (λ b. q b ≡ false) edges r)
        → ((x : Bor (List ℕ) × Unit {0}) (b : Bool) (by' : F) → Called c by x b by' → (b ≡ ltb (state_in x.0.now) s) × (by' ≡ by))
        → r ≤ length edges → IndexOf g.file.now g.header s r
    indexes s r clause answers le =
        let long = count in
        index_is g.file.now g.header edges_right s r (omega arith)
        (λ i lt. omega (arith, below state_in edges in_order s r clause answers i [] lt, state_at i [] (omega arith)))
        (λ i high lt. omega (arith, above state_in edges in_order s r clause answers i [] high (omega arith), state_at i [] lt))

module _ (t : Edges) (s : ℕ) (within : s < t.good.header.states) where
  abbrev f : List ℕ
  f = t.good.file.now

  abbrev h : Header
  h = t.good.header

  abbrev start : ℕ
  start = get_or t.firsts s 0

  abbrev end : ℕ
  end = get_or t.firsts (s + 1) 0

  right : AllRight kinds.Edges f h
  right = edges_right t.good t.kind

  from : IndexOf f h s start
  from = t.indexed s (omega arith)

  to : IndexOf f h (s + 1) end
  to = t.indexed (s + 1) (omega arith)

  -- the index bounds the state's edges
  pub bounds : (start ≤ end) × (end ≤ length t.edges.now)
  bounds = (forward f h right s start end from to, omega (arith, count t.good t.kind t.edges.now t.all, to.0))

  -- the state's edges in the list of their bytes
  abbrev part : List (List ℕ)
  part = between start end t.edges.now

  part_length : length part ≡ end - start
  part_length = length-between t.edges.now start end bounds.1

  part_at : (i : ℕ) (d : List ℕ) → start + i < end → edge_at (get_or part i d) 0 ≡ edge_of f h (start + i)
  part_at i d lt = ap (λ (b : List ℕ). edge_at b 0) (get_or-between t.edges.now start end i d lt) ∙ at t.good t.kind t.edges.now t.all (start + i) d (omega (arith, to.0))

  last_at : (i : ℕ) (d : List ℕ) → start + i < end → last_in (get_or part i d) ≡ (edge_of f h (start + i)).last
  last_at i d lt = ap (λ (e : Edge). e.last) (part_at i d lt)

  lasts_in_order : IsNonDecreasingBy last_in part
  lasts_in_order i j d le lt =
      let long = part_length in
      let r = lasts_rise f h right s start end from to (start + i) (start + j) (omega arith) (omega arith) (omega arith) in
      omega (arith, last_at i d (omega arith), last_at j d (omega arith))

  -- where the edges that end before a letter end
  module _ (a r : ℕ) {F : Type 0} {c : Mut F (Bor (List ℕ) × Unit {0}) Bool} {by : F}
      (clause : (q : List ℕ → Bool) → ComputesKey c q by → IsPartitionedBy q part → IsPartitionPoint (λ b. q b ≡ true) (λ b. q b ≡ false) part r)
      (answers : (x : Bor (List ℕ) × Unit {0}) (b : Bool) (by' : F) → Called c by x b by' → (b ≡ ltb (last_in x.0.now) a) × (by' ≡ by)) where
    before : (i : ℕ) → start ≤ i → i < start + r → i < end → (edge_of f h i).last < a
    before i low front high =
        let e : start + (i - start) ≡ i = omega arith in
        let u = below last_in part lasts_in_order a r clause answers (i - start) [] (omega arith) in
        let v = last_at (i - start) [] (omega arith) in
        let w : (edge_of f h (start + (i - start))).last ≡ (edge_of f h i).last = ap (λ (k : ℕ). (edge_of f h k).last) e in
        omega arith

    -- the state stays where there is none behind them, or the next one begins behind the letter
    pub stays : (r < length part → a < (edge_of f h (start + r)).first) → s ≡ transitions_of h.kind f h s a
    stays gap =
        let long = part_length in
        subst (λ (k : Kind). s ≡ transitions_of k f h s a) (sym t.kind) (stays_at f h right s a (in_gap f h right s start end from to a (start + r) before (λ low high. gap (omega arith)) (omega arith)))

    module _ (bytes : List ℕ) (e : Edge) (is : e ≡ edge_at bytes 0) (here : bytes ≡ get_or part r bytes) (more : r < length part) where
      next_is : e ≡ edge_of f h (start + r)
      next_is = let long = part_length in is ∙ ap (λ (b : List ℕ). edge_at b 0) here ∙ part_at r bytes (omega arith)

      pub passes : a < e.first → s ≡ transitions_of h.kind f h s a
      passes lt = stays (λ _. subst (λ (x : Edge). a < x.first) next_is lt)

      pub leads : e.first ≤ a → e.target ≡ transitions_of h.kind f h s a
      leads le =
          let long = part_length in
          let l = to.0 in
          let first : (edge_of f h (start + r)).first ≤ a = subst (λ (x : Edge). x.first ≤ a) next_is le in
          let last : a ≤ (edge_of f h (start + r)).last = omega (arith, above last_in part lasts_in_order a r clause answers r bytes (omega arith) more, last_at r bytes (omega arith)) in
          subst (λ (k : Kind). e.target ≡ transitions_of k f h s a) (sym t.kind)
          (ap (λ (x : Edge). x.target) next_is ∙ leads_to f h right s a (start + r) (omega arith) (found_lists f h right s start end from to a (start + r) (omega arith) (omega arith) last first))
