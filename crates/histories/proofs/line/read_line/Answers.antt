use Rattle.std.proofs.Common.{arith}
use Rattle.histories.proofs.Cutting.{cut_right}
use Rattle.histories.proofs.RoundTrip.{reads_back}
use Rattle.histories.proofs.line.read_line.Goals as goal

pub returns-clause-cut : goal.returns-clause-cut
returns-clause-cut c = cut_right _

pub returns-clause-back : goal.returns-clause-back
returns-clause-back c = reads_back _ (omega arith) _ _ c.read_tokens.ensures.read
