use Rattle.ruleformat.proofs.InFront.{unread}
use Rattle.ruleformat.proofs.notes.notes_are_not_read.Goals as goal

pub returns : goal.returns
returns g c = unread g.V.Verdict.reads g.V.Verdict.closing
