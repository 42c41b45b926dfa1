use Rattle.std.proofs.Common.{◌≡◌, ℕ, List, [], get_or, length, ap, ◌∙◌, subst, arith}
use Rattle.ruleformat.specs.declared.format.Kind.{Kind}
use Rattle.ruleformat.specs.declared.format.Kind.TheVariants.{Edges}
use Rattle.ruleformat.specs.Bytes.{edge_at}
use Rattle.ruleformat.specs.Layout.{Closes, entry_bytes, entry_size}
use Rattle.ruleformat.proofs.Chunks.{length-chunks, edge_in}
use Rattle.rulecheck.proofs.parts.Parts.edge.Goals as goal

pub bounds-entries-i : goal.bounds-entries-i
bounds-entries-i c =
    let t = c.args.self.now in
    let len = ap length c.entries.ensures ∙ length-chunks (entry_size t.header.kind) t.header.entries _ in
    omega (arith, len, c.requires.within)

pub returns : goal.returns
returns c =
    let t = c.args.self.now in
    let closes = subst (λ (kd : Kind). Closes (length t.file.now) kd t.header) c.requires.kind t.closes in
    let bytes : c.entries.result.now ≡ entry_bytes Edges t.file.now t.header = c.entries.ensures ∙ ap (λ (kd : Kind). entry_bytes kd t.file.now t.header) c.requires.kind in
    c.from.ensures ∙ ap (λ (xs : List (List ℕ)). edge_at (get_or xs c.args.i []) 0) bytes ∙ edge_in t.file.now t.header closes c.args.i [] c.requires.within
