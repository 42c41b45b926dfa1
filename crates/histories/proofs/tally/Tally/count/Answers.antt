use Rattle.std.proofs.Common.{rules}
use Rattle.histories.proofs.Telling.{tells_more}
use Rattle.histories.proofs.tally.Tally.count.Goals as goal

pub returns-in-Followed-default-Yes-clause-tells : goal.returns-in-Followed-default-Yes-clause-tells
returns-in-Followed-default-Yes-clause-tells c = λ os _. tells_more _ _ _ os (search rules)

pub returns-in-Followed-default-No-clause-tells : goal.returns-in-Followed-default-No-clause-tells
returns-in-Followed-default-No-clause-tells c = λ os _. tells_more _ _ _ os (search rules)

pub returns-in-Unreadable-clause-tells : goal.returns-in-Unreadable-clause-tells
returns-in-Unreadable-clause-tells c = λ os _. tells_more _ _ _ os (search rules)
