use Rattle.std.proofs.Common.{rules}
use Rattle.histories.proofs.Walking.{walk_on}
use Rattle.histories.proofs.walk.walk_line.Goals as goal

pub loop-letter-preserved : goal.loop-letter-preserved
loop-letter-preserved g c = record {
  can = tt;
  ends = tt;
  walked = walk_on _ _ _ _ _ _ _ _ c.loop-letter.invariant.walked (search rules) c.next-state.ensures;
}
