-- The automata over a file are sound, each means the table of its kind, and that of a list of edges leads as they do.
use Rattle.std.specs.Prelude.{◌≡◌, ℕ, ◌<◌, Some, None, Option, refl}
use Rattle.std.proofs.Common.{ap, ◌∙◌, subst}
use Rattle.ruleformat.specs.declared.format.Kind.{Kind}
use Rattle.ruleformat.specs.declared.format.Kind.TheVariants as kinds
use Rattle.ruleformat.specs.EdgeWords.{Leads}
use Rattle.ruleformat.specs.Faults.{AllRight}
use Rattle.ruleformat.specs.Makes.{table_of}
use Rattle.automata.specs.Meaning.{Meaning, Sound}
use Rattle.automata.specs.ClosedRule.{closed_sound}
use Rattle.ruleformat.specs.Tables.{or_closed, dense_table, edge_table}
use Rattle.ruleformat.proofs.TableLaws.{table_sound, edges_lead}
use Rattle.rulefile.specs.declared.good_file.GoodFile.{GoodFile}
use Rattle.rulefile.specs.declared.table.FileTable.{FileTable}
use Rattle.rulefile.specs.declared.dense.Dense.{Dense}
use Rattle.rulefile.specs.declared.edges.Edges.{Edges}
use Rattle.rulefile.specs.declared.rule_file.RuleFile.{RuleFile}
use Rattle.rulefile.specs.declared.rule_file.RuleFile.TheVariants as file
use Rattle.rulefile.specs.Meanings.{good_meaning, table_meaning, dense_meaning, edge_meaning, file_meaning}

module _ {V : Type 0} (reads : ℕ → Option V) (closing : V) where
  good_sound : (g : GoodFile) → Sound closing (good_meaning reads closing g)
  good_sound g = table_sound reads closing g.file.now g.header g.ranged g.header.kind g.said g.right

  or_closed_sound : {X : Type 0} (o : Option X) (meaning : X → Meaning V) → ((x : X) → Sound closing (meaning x)) → Sound closing (or_closed closing o meaning)
  or_closed_sound None meaning sound = closed_sound closing
  or_closed_sound (Some x) meaning sound = sound x

  pub table_meaning_sound : {T : Type 0} (file_of : T → GoodFile) (t : FileTable T V) → Sound closing (table_meaning reads closing file_of t)
  table_meaning_sound file_of t = or_closed_sound t.transitions _ (λ x. good_sound (file_of x))

  pub file_meaning_sound : (r : RuleFile V) → Sound closing (file_meaning reads closing r)
  file_meaning_sound (file.Dense t) = table_meaning_sound (λ (x : Dense). x.good) t
  file_meaning_sound (file.Edges t) = table_meaning_sound (λ (x : Edges). x.good) t

  same_or_closed : {X : Type 0} (o : Option X) (p q : X → Meaning V) → ((x : X) → p x ≡ q x) → or_closed closing o p ≡ or_closed closing o q
  same_or_closed None p q same = refl
  same_or_closed (Some x) p q same = same x

  -- a table of the dense kind means the dense table of its file
  dense_good : (x : Dense) → good_meaning reads closing x.good ≡ dense_table reads closing x.good.file.now x.good.header
  dense_good x = ap (λ (kd : Kind). table_of kd reads closing x.good.file.now x.good.header) x.kind

  pub dense_meaning_is : (t : FileTable Dense V) → dense_meaning reads closing t ≡ or_closed closing t.transitions (λ x. dense_table reads closing x.good.file.now x.good.header)
  dense_meaning_is t = same_or_closed t.transitions _ _ dense_good

  -- and one of the other kind means the table of its edges
  edge_good : (x : Edges) → good_meaning reads closing x.good ≡ edge_table reads closing x.good.file.now x.good.header
  edge_good x = ap (λ (kd : Kind). table_of kd reads closing x.good.file.now x.good.header) x.kind

  pub edge_meaning_is : (t : FileTable Edges V) → edge_meaning reads closing t ≡ or_closed closing t.transitions (λ x. edge_table reads closing x.good.file.now x.good.header)
  edge_meaning_is t = same_or_closed t.transitions _ _ edge_good

  -- within the ranges, what means a good file of the other kind leads as its edges do
  pub good_leads : (g : GoodFile) (m : Meaning V) → m ≡ good_meaning reads closing g → g.header.kind ≡ kinds.Edges → (s a : ℕ) → s < g.header.states → a < g.header.letters → Leads g.file.now g.header s a (m.next s a)
  good_leads g m is edges =
      edges_lead reads closing g.file.now g.header m
      (is ∙ ap (λ (kd : Kind). table_of kd reads closing g.file.now g.header) edges)
      (subst (λ (kd : Kind). AllRight kd g.file.now g.header) edges g.right)
