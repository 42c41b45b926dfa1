use Rattle.std.proofs.Common.{◌≡◌, ◌%◌, rules, sym, refl, arith}
use Rattle.automata.specs.Release.{decision_number}
use Rattle.automata.specs.ReleaseLaws.{read_is}
use Rattle.automata.proofs.release.ReleaseVerdict.read.Goals as goal

pub returns-clause-value : goal.returns-clause-value
returns-clause-value c =
    let number : decision_number c.in_ok-decision.decision ≡ c.args.byte % 4 = search rules in
    read_is c.in_ok-decision.decision c.args.byte _ (omega arith) (sym number) refl refl
