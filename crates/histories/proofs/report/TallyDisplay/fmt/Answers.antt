use Rattle.histories.proofs.report.TallyDisplay.fmt.Goals as goal

pub returns-clause-writes : goal.returns-clause-writes
returns-clause-writes g c = rw (← c.histories-histories.ensures, ← c.followed-followed.ensures) c.write.ensures.writes
