-- The entries of a file in the list of their bytes.
use Rattle.std.proofs.Common.{◌≡◌, ℕ, zero, suc, ◌+◌, ◌*◌, ◌<◌, List, length, get_or, drop, refl, ap, mul_comm, ◌∙◌, arith}
use Rattle.std.proofs.lemmas.List.{get_or-take, get_or-drop}
use Rattle.std.proofs.lemmas.Nat.{mul-add-lt}
use Rattle.std.specs.Simd.{first_chunks}
use Rattle.std.specs.List.{between}
use Rattle.std.proofs.lemmas.List.Edits.{get_or-between}
use Rattle.ruleformat.specs.declared.format.Header.{Header}
use Rattle.ruleformat.specs.declared.format.Kind.{Kind}
use Rattle.ruleformat.specs.declared.format.Kind.TheVariants.{Dense, Edges}
use Rattle.ruleformat.specs.Bytes.{two_at, edge_at}
use Rattle.ruleformat.specs.Layout.{Closes, entry_size, entry_place, entry_bytes}
use Rattle.ruleformat.specs.Faults.{Right, edge_of}
use Rattle.ruleformat.specs.EdgeWords.{edge_bytes}

pub length-chunks : {X : Type 0} (n k : ℕ) (xs : List X) → length (first_chunks n k xs) ≡ k
length-chunks n zero xs = refl
length-chunks n (suc k) xs = ap (λ (j : ℕ). suc j) (length-chunks n k (drop n xs))

-- byte j of chunk i
byte_at : (n k i j : ℕ) (xs d : List ℕ) → i < k → j < n → get_or (get_or (first_chunks n k xs) i d) j 0 ≡ get_or xs (n * i + j) 0
byte_at n zero i j xs d lt small = absurd (omega arith)
byte_at n (suc k) zero j xs d lt small = let e : j ≡ n * 0 + j = omega arith in get_or-take n xs j 0 small ∙ ap (λ (p : ℕ). get_or xs p 0) e
byte_at n (suc k) (suc i) j xs d lt small =
    let e : n + (n * i + j) ≡ n * suc i + j = omega arith in
    byte_at n k i j (drop n xs) d (omega arith) small ∙ get_or-drop n xs (n * i + j) 0 ∙ ap (λ (p : ℕ). get_or xs p 0) e

module _ (f : List ℕ) (h : Header) where
  byte_of : (kd : Kind) → Closes (length f) kd h → (i j p : ℕ) (d : List ℕ) → i < h.entries → j < entry_size kd → entry_place kd h i + j ≡ p → get_or (get_or (entry_bytes kd f h) i d) j 0 ≡ get_or f p 0
  byte_of kd closes i j p d lt small e =
      let c = closes.0 in
      let n = entry_size kd in
      let inside = mul-add-lt i n j h.entries lt small in
      let count = mul_comm h.entries n in
      let turned = mul_comm i n in
      let at : h.transitions + (n * i + j) ≡ p = omega arith in
      byte_at n h.entries i j (between h.transitions h.verdicts f) d lt small ∙ get_or-between f h.transitions h.verdicts (n * i + j) 0 (omega arith) ∙ ap (λ (q : ℕ). get_or f q 0) at

  -- the target in the bytes at i is target i of the file
  pub target_in : Closes (length f) Dense h → (i : ℕ) (d : List ℕ) → i < h.entries → two_at (get_or (entry_bytes Dense f h) i d) 0 ≡ two_at f (entry_place Dense h i)
  target_in closes i d lt =
      let at = entry_place Dense h i in
      λ t. byte_of Dense closes i 0 at d lt (omega arith) (omega arith) t + byte_of Dense closes i 1 (at + 1) d lt (omega arith) refl t * 256

  pub target_right : Closes (length f) Dense h → (i : ℕ) (d : List ℕ) → i < h.entries → (two_at (get_or (entry_bytes Dense f h) i d) 0 < h.states → Right Dense f h i) × (Right Dense f h i → two_at (get_or (entry_bytes Dense f h) i d) 0 < h.states)
  target_right closes i d lt = let e = target_in closes i d lt in (λ q. omega arith, λ p. omega arith)

  -- the edge in the bytes at i is edge i of the file
  pub edge_in : Closes (length f) Edges h → (i : ℕ) (d : List ℕ) → i < h.entries → edge_at (get_or (edge_bytes f h) i d) 0 ≡ edge_of f h i
  unfolding edge_at
  edge_in closes i d lt =
      let at = entry_place Edges h i in
      λ t. record {
        state = byte_of Edges closes i 0 at d lt (omega arith) (omega arith) t + byte_of Edges closes i 1 (at + 1) d lt (omega arith) refl t * 256;
        first = byte_of Edges closes i 2 (at + 2) d lt (omega arith) refl t;
        last = byte_of Edges closes i 3 (at + 3) d lt (omega arith) refl t;
        target = byte_of Edges closes i 4 (at + 4) d lt (omega arith) refl t + byte_of Edges closes i 5 (at + 4 + 1) d lt (omega arith) (omega arith) t * 256;
      }
