-- What stands in the targets of a good file of that kind.
use Rattle.std.proofs.Common.{◌≡◌, ℕ, ◌+◌, ◌*◌, ◌<◌, List, length, get_or, refl, sym, ap, ◌∙◌, subst, arith}
use Rattle.ruleformat.specs.declared.format.Header.{Header}
use Rattle.ruleformat.specs.declared.format.Kind.{Kind}
use Rattle.ruleformat.specs.declared.format.Kind.TheVariants as kinds
use Rattle.ruleformat.specs.Bytes.{two_at}
use Rattle.ruleformat.specs.Layout.{Closes, header_of}
use Rattle.ruleformat.specs.Tables.{transitions_of}
use Rattle.ruleformat.proofs.TableLaws.{row_place}
use Rattle.ruleformat.proofs.Chunks.{length-chunks, target_in}
use Rattle.rulefile.specs.declared.dense.Dense.{Dense}

module _ (t : Dense) (s a : ℕ) (p : s < t.good.header.states) (q : a < t.good.header.letters) where
  abbrev f : List ℕ
  f = t.good.file.now

  abbrev h : Header
  h = t.good.header

  abbrev place : ℕ
  place = s * h.letters + a

  -- there is a target for each state and letter
  count : h.entries ≡ h.states * h.letters
  count =
      let said : h ≡ header_of f kinds.Dense = subst (λ (k : Kind). h ≡ header_of f k) t.kind t.good.said in
      subst (λ (x : Header). x.entries ≡ x.states * x.letters) (sym said) refl

  inside : place < h.entries
  inside = let row = row_place s h.states a h.letters p q in let all = count in omega arith

  pub bound : place < length t.targets.now
  bound = let all = ap length t.all ∙ length-chunks 2 h.entries _ in let lt = inside in omega arith

  -- the target in their bytes is where the file leads
  pub leads : (d : List ℕ) → two_at (get_or t.targets.now place d) 0 ≡ transitions_of h.kind f h s a
  leads d =
      let closes : Closes (length f) kinds.Dense h = subst (λ (k : Kind). Closes (length f) k h) t.kind t.good.closes in
      subst (λ (k : Kind). two_at (get_or t.targets.now place d) 0 ≡ transitions_of k f h s a) (sym t.kind)
      (ap (λ (bs : List (List ℕ)). two_at (get_or bs place d) 0) t.all ∙ target_in f h closes place d inside)
