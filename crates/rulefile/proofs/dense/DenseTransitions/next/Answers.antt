use Rattle.std.proofs.Common.{arith}
use Rattle.rulefile.proofs.DenseFiles.{bound}
use Rattle.rulefile.proofs.dense.DenseTransitions.next.Goals as goal

pub bounds-self-state : goal.bounds-self-state
bounds-self-state c = omega (arith, bound c.args.self.now c.args.state c.args.letter c.requires.state c.requires.letter)
