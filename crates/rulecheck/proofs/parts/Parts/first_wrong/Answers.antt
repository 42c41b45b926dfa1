use Rattle.std.proofs.Common.{ℕ, rules}
use Rattle.std.proofs.lemmas.Iterator.{first_from_Range}
use borrow.Author.Tests.{tests}
use Rattle.ruleformat.specs.Faults.{Right}
use Rattle.rulecheck.proofs.First.{first_wrong_from}
use Rattle.rulecheck.proofs.parts.Parts.first_wrong.Goals as goal

pub returns-in-Edges : goal.returns-in-Edges
returns-in-Edges c =
    let t = c.args.self.now in
    let right = λ (i : ℕ). Right t.header.kind t.file.now t.header i in
    first_wrong_from right t.header.entries _ (first_from_Range _ _ _ _ (λ i. right i → ⊥) right c.find.ensures.ran (λ x q k. search (rules, tests)) (λ x q k. search (rules, tests)))
