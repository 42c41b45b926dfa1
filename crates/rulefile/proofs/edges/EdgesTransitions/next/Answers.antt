use Rattle.std.proofs.Common.{sym, arith, rules}
use Rattle.std.proofs.lemmas.Bool.{ltb-true}
use Rattle.rulefile.proofs.EdgeFiles.{bounds, stays, leads, passes}
use Rattle.rulefile.proofs.edges.EdgesTransitions.next.Goals as goal

pub slice_bounds-of_state-count : goal.slice_bounds-of_state-count
slice_bounds-of_state-count c = (bounds c.args.self.now c.args.state c.requires.state).0

pub slice_bounds-of_state-start : goal.slice_bounds-of_state-start
slice_bounds-of_state-start c = (bounds c.args.self.now c.args.state c.requires.state).0

pub slice_bounds-of_state-end : goal.slice_bounds-of_state-end
slice_bounds-of_state-end c = (bounds c.args.self.now c.args.state c.requires.state).1

pub returns-in_default : goal.returns-in_default
returns-in_default c =
    stays c.args.self.now c.args.state c.requires.state c.args.letter c.partition_point-found.result c.partition_point-found.ensures.partitioned (λ x r q k. search rules)
    (λ more. absurd (omega (arith, c.in_default.ensures.lookup.3)))

pub returns-then-e-letter : goal.returns-then-e-letter
returns-then-e-letter c =
    leads c.args.self.now c.args.state c.requires.state c.args.letter c.partition_point-found.result c.partition_point-found.ensures.partitioned (λ x r q k. search rules)
    _ _ c.from-e.ensures c.in-Some.ensures.lookup.1 (ltb-true _ _ (sym c.in-Some.ensures.lookup.0)) (omega arith)

pub returns-else-e-letter : goal.returns-else-e-letter
returns-else-e-letter c =
    passes c.args.self.now c.args.state c.requires.state c.args.letter c.partition_point-found.result c.partition_point-found.ensures.partitioned (λ x r q k. search rules)
    _ _ c.from-e.ensures c.in-Some.ensures.lookup.1 (ltb-true _ _ (sym c.in-Some.ensures.lookup.0)) (omega arith)
