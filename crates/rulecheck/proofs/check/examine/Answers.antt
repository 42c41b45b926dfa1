use Rattle.std.proofs.Common.{rules}
use Rattle.ruleformat.proofs.Headings.{entry_refused, verdict_refused, answer_is}
use Rattle.rulecheck.proofs.check.examine.Goals as goal

pub returns-in_err-check_entries : goal.returns-in_err-check_entries
returns-in_err-check_entries g c =
    let tail = c.in_ok-tail.ensures in
    let header = c.in_ok-header.ensures in
    let bad = c.in_err-check_entries.ensures in
    let refused = entry_refused c.args.wanted c.args.file.now c.in_ok-kind.kind _ _ tail.0 tail.1 tail.2 c.in_ok-kind.ensures c.in_ok-check_figures.ensures header.0 _ header.1 g.V.Verdict.reads bad.0 _ bad.1 bad.2 in
    search rules

pub returns-in_err-check_verdicts : goal.returns-in_err-check_verdicts
returns-in_err-check_verdicts g c =
    let tail = c.in_ok-tail.ensures in
    let header = c.in_ok-header.ensures in
    let bad = c.in_err-check_verdicts.ensures in
    let refused = verdict_refused c.args.wanted c.args.file.now c.in_ok-kind.kind _ _ tail.0 tail.1 tail.2 c.in_ok-kind.ensures c.in_ok-check_figures.ensures header.0 _ header.1 g.V.Verdict.reads c.in_ok-check_entries.ensures bad.0 _ bad.1 bad.2 in
    search rules

pub returns : goal.returns
returns g c =
    let tail = c.in_ok-tail.ensures in
    let header = c.in_ok-header.ensures in
    answer_is c.args.wanted c.args.file.now c.in_ok-kind.kind _ _ tail.0 tail.1 tail.2 c.in_ok-kind.ensures c.in_ok-check_figures.ensures header.0 _ header.1 g.V.Verdict.reads c.in_ok-check_entries.ensures c.in_ok-check_verdicts.ensures
