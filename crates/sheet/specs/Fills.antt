-- What the pass that fills a table writes. Assumes nothing.
use Rattle.std.specs.Prelude.{ℕ, List, [], ◌∷◌, Ok, Err, Result}
use Rattle.terms.specs.declared.arc.Arc.{Arc}
use Rattle.terms.specs.declared.fault.LineFault.{LineFault}
use Rattle.sheet.specs.declared.columns.Columns.{Columns}
use Rattle.sheet.specs.Sheets.{row_of}

abbrev pub or_skip : Result Arc LineFault → List Arc → List Arc
or_skip (Ok arc) arcs = arc ∷ arcs
or_skip (Err fault) arcs = arcs

-- the arcs of the lines that name one, without those that name none
abbrev pub readable : Columns → List (List ℕ) → List Arc
readable order [] = []
readable order (line ∷ lines) = or_skip (row_of order line) (readable order lines)

-- a table with arcs at its front, as far as it reaches
abbrev pub written : List Arc → List Arc → List Arc
written [] table = table
written (a ∷ arcs) [] = []
written (a ∷ arcs) (t ∷ table) = a ∷ written arcs table
