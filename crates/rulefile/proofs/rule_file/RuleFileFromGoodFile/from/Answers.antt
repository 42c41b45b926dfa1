use Rattle.std.proofs.Common.{◌≡◌, rules}
use Rattle.rulefile.specs.Meanings.{good_meaning, table_meaning}
use Rattle.rulefile.specs.Soundness.{good_leads}
use Rattle.rulefile.proofs.rule_file.RuleFileFromGoodFile.from.Goals as goal

pub returns-in-Edges : goal.returns-in-Edges
returns-in-Edges g c =
    let reads = g.V.Verdict.reads in
    let closing = g.V.Verdict.closing in
    let m = table_meaning reads closing (λ x. x.good) c.new-in-Edges.result in
    let is : m ≡ good_meaning reads closing c.args.good = search rules in
    (search rules, search rules, is, good_leads reads closing c.args.good m is)
