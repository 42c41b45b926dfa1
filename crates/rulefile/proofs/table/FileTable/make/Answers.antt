use Rattle.std.proofs.Common.{subst, rules}
use Rattle.ruleformat.specs.declared.format.Kind.{Kind}
use Rattle.ruleformat.specs.Makes.{Makes}
use Rattle.ruleformat.proofs.TableLaws.{follows_edges}
use Rattle.rulefile.specs.Meanings.{table_meaning}
use Rattle.rulefile.proofs.table.FileTable.make.Goals as goal

pub returns-clause-leads : goal.returns-clause-leads
returns-clause-leads g c =
    let reads = g.V.Verdict.reads in
    let closing = g.V.Verdict.closing in
    let m = table_meaning reads closing g.T.Transitions.file_of c.new.result in
    let made : Makes g.T.Transitions.kind reads closing c.args.file.now m = search rules in
    λ edges. follows_edges reads closing c.args.file.now m (subst (λ (k : Kind). Makes k reads closing c.args.file.now m) edges made)
