use Rattle.std.proofs.Common.{◌<◌, ◌≢◌, length, ap, ◌∙◌, arith, rules, length-set, get_or-set_other, get_or-set_same, below_more}
use Rattle.ruleformat.specs.declared.format.Kind.{Kind}
use Rattle.ruleformat.specs.Layout.{entry_bytes}
use Rattle.rulefile.proofs.EdgeFiles.{indexes}
use Rattle.rulefile.proofs.edges.EdgesTransitions.of.Goals as goal

pub loop-state-preserved : goal.loop-state-preserved
loop-state-preserved c =
    let xs = c.loop-state.first-items in
    let s = c.loop-state.state-counter in
    let found = c.partition_point.ensures in
    let within : s < length xs = omega (arith, c.loop-state.invariant.0) in (
      length-set xs s c.partition_point.result ∙ c.loop-state.invariant.0,
      below_more _ _
          (λ t lt. let other : t ≢ s = omega arith in rw get_or-set_other (c.loop-state.invariant.1 t lt))
          (rw get_or-set_same (indexes c.args.good c.requires _ (c.entries-edges.ensures ∙ ap (λ (k : Kind). entry_bytes k c.args.good.file.now c.args.good.header) c.requires) s _ found.partitioned (λ x r q k. search rules) found.bound)),
    )
