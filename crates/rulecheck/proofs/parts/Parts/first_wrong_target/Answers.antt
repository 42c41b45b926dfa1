use Rattle.std.proofs.Common.{◌≡◌, ℕ, ◌<◌, List, [], length, rules, ap, ◌∙◌, subst}
use Rattle.std.proofs.lemmas.Iterator.{IsFirst-from_position, YieldsList-from_slice}
use borrow.Author.Tests.{tests}
use Rattle.ruleformat.specs.declared.format.Kind.{Kind}
use Rattle.ruleformat.specs.declared.format.Kind.TheVariants.{Dense}
use Rattle.ruleformat.specs.Bytes.{two_at}
use Rattle.ruleformat.specs.Layout.{Closes, entry_bytes}
use Rattle.ruleformat.specs.Faults.{Right}
use Rattle.ruleformat.proofs.Chunks.{length-chunks, target_right}
use Rattle.rulecheck.proofs.First.{first_wrong_in}
use Rattle.rulecheck.proofs.parts.Parts.first_wrong_target.Goals as goal

pub returns : goal.returns
returns c =
    let t = c.args.self.now in
    let right = λ (bytes : List ℕ). two_at bytes 0 < t.header.states in
    let closes = subst (λ (kd : Kind). Closes (length t.file.now) kd t.header) c.requires t.closes in
    let bytes : c.entries.result.now ≡ entry_bytes Dense t.file.now t.header = c.entries.ensures ∙ ap (λ (kd : Kind). entry_bytes kd t.file.now t.header) c.requires in
    first_wrong_in right (Right Dense t.file.now t.header) (entry_bytes Dense t.file.now t.header) [] t.header.entries (length-chunks 2 t.header.entries _) (λ i lt. target_right t.file.now t.header closes i [] lt) _
    (IsFirst-from_position _ _ _ (λ bytes. right bytes → ⊥) right c.position.ensures.ran (YieldsList-from_slice (entry_bytes Dense t.file.now t.header) cc) (λ x q k. search (rules, tests)) (λ x q k. search (rules, tests)))
