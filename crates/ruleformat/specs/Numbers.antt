-- The number and the place of a file's fault, and the name of a kind.
use Rattle.std.specs.Prelude.{ℕ, List, codes}
use Rattle.ruleformat.specs.declared.format.Kind.{Kind as TableKind}
use Rattle.ruleformat.specs.declared.format.Kind.TheVariants.{Dense, Edges}
use Rattle.ruleformat.specs.declared.fault.FileFault.{FileFault}
use Rattle.ruleformat.specs.declared.fault.FileFault.TheVariants.{Short, Kind, Figures, Distance, Entry, Verdict}

abbrev pub number_of : FileFault → ℕ
number_of (Short p) = 1
number_of (Kind p) = 2
number_of (Figures p) = 3
number_of (Distance p) = 4
number_of (Entry p) = 5
number_of (Verdict p) = 6

abbrev pub place_of : FileFault → ℕ
place_of (Short p) = p
place_of (Kind p) = p
place_of (Figures p) = p
place_of (Distance p) = p
place_of (Entry p) = p
place_of (Verdict p) = p

-- how a kind is printed
abbrev pub kind_name : TableKind → List ℕ
kind_name Dense = codes "dense"
kind_name Edges = codes "edges"
