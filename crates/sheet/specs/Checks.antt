-- What the pass that checks a sheet tells. Assumes nothing.
use Rattle.std.specs.Prelude.{◌≡◌, ℕ, List, drop, Ok, Err, Result}
use Rattle.terms.specs.declared.arc.Arc.{Arc}
use Rattle.terms.specs.declared.fault.SheetFault.{SheetFault}
use Rattle.sheet.specs.declared.columns.Columns.{Columns}
use Rattle.sheet.specs.Sheets.{rows_of, arcs_of}

-- a sheet was checked: its fault was told, or else its order, under which its lines of values name its arcs
abbrev pub Checked : List (List ℕ) → Result Columns SheetFault → Type 0
Checked lines (Ok order) = (arcs : List Arc) × (arcs_of lines ≡ Ok arcs) × (rows_of order 2 (drop 1 lines) ≡ Ok arcs)
Checked lines (Err fault) = arcs_of lines ≡ Err fault
