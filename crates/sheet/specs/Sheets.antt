-- What a sheet says: the arcs its lines name, or its first fault. Assumes nothing.
use Rattle.std.specs.Prelude.{ℕ, ◌+◌, ◌-◌, min, cond, List, [], ◌∷◌, ◌++◌, length, drop, Some, None, Ok, Err, Option, Result, nat_lt}
use Rattle.terms.specs.declared.arc.Arc.{Arc}
use Rattle.terms.specs.declared.fault.NumberFault.{NumberFault}
use Rattle.terms.specs.declared.fault.LineFault.{LineFault}
use Rattle.terms.specs.declared.fault.LineFault.TheVariants.{Field, WrongCount, Names}
use Rattle.terms.specs.declared.fault.SheetFault.{SheetFault}
use Rattle.terms.specs.declared.refusal.Refusal.{Refusal}
use Rattle.terms.specs.declared.refusal.Refusal.TheVariants.{TableShort, Sheet as Faulty}
use Rattle.text.specs.Numbers.{number_of}
use Rattle.text.specs.Pieces.{fields_of}
use Rattle.sheet.specs.declared.columns.Columns.{Columns}
use Rattle.sheet.specs.declared.read.Sheet.{Sheet}
use Rattle.sheet.specs.Columns.{columns_of, arc_of}
use Rattle.sheet.specs.Lines.{sheet_lines, span}

-- go on with the number of a line's k-th field, or stop at its fault
abbrev pub in_field : {X : Type 0} → ℕ → Result ℕ NumberFault → (ℕ → Result X LineFault) → Result X LineFault
in_field k (Ok n) more = more n
in_field k (Err e) more = Err (Field k e)

-- the arc of a line's fields, of which there must be three
abbrev pub arc_in : Columns → List (List ℕ) → Result Arc LineFault
arc_in order [] = Err WrongCount
arc_in order (x ∷ []) = Err WrongCount
arc_in order (x ∷ y ∷ []) = Err WrongCount
arc_in order (x ∷ y ∷ z ∷ []) =
    in_field 1 (number_of x) (λ first. in_field 2 (number_of y) (λ second. in_field 3 (number_of z) (λ third. Ok (arc_of order first second third))))
arc_in order (w ∷ x ∷ y ∷ z ∷ more) = Err WrongCount

-- the arc that a line of values names, or what is wrong with the line
unfoldable pub row_of : Columns → List ℕ → Result Arc LineFault
row_of order line = arc_in order (fields_of line)

-- go on with the arc of the k-th line, or stop at its fault
abbrev pub in_line : {X : Type 0} → ℕ → Result Arc LineFault → (Arc → Result X SheetFault) → Result X SheetFault
in_line k (Ok arc) more = more arc
in_line k (Err fault) more = Err (record { line = k; fault = fault })

-- an arc before the others, unless one of those is faulty
abbrev pub and_these : Arc → Result (List Arc) SheetFault → Result (List Arc) SheetFault
and_these arc (Ok arcs) = Ok (arc ∷ arcs)
and_these arc (Err fault) = Err fault

-- the arcs of lines of values, the first of them line k
abbrev pub rows_of : Columns → ℕ → List (List ℕ) → Result (List Arc) SheetFault
rows_of order k [] = Ok []
rows_of order k (line ∷ lines) = in_line k (row_of order line) (λ arc. and_these arc (rows_of order (k + 1) lines))

-- the arcs of the lines that follow a line of names
abbrev pub arcs_under : Option Columns → List (List ℕ) → Result (List Arc) SheetFault
arcs_under None lines = Err (record { line = 1; fault = Names })
arcs_under (Some order) lines = rows_of order 2 lines

-- the arcs that the lines of a sheet name, or its first fault
abbrev pub arcs_of : List (List ℕ) → Result (List Arc) SheetFault
arcs_of [] = Err (record { line = 1; fault = Names })
arcs_of (names ∷ lines) = arcs_under (columns_of names) lines

-- where the text after the sheet begins: past the sheet's lines and the empty line that ends it, as far as there are bytes
abbrev pub end_of : List ℕ → ℕ
end_of bytes = min (span (sheet_lines bytes) + 1) (length bytes)

-- what reading a sheet answers: how many arcs it names and where it ends, or why it is declined
abbrev pub answered : List ℕ → Result (List Arc) SheetFault → Result Sheet Refusal
answered bytes (Ok arcs) = Ok (record { arcs = length arcs; end = end_of bytes })
answered bytes (Err fault) = Err (Faulty fault)

-- a table too short for the lines of values is told first
unfoldable pub sheet_of : List ℕ → ℕ → Result Sheet Refusal
sheet_of bytes entries =
    cond (nat_lt entries (length (sheet_lines bytes) - 1)) (Err TableShort) (answered bytes (arcs_of (sheet_lines bytes)))

-- a table with these arcs at its front
abbrev pub over : List Arc → List Arc → List Arc
over arcs table = arcs ++ drop (length arcs) table

abbrev pub filled_by : Result (List Arc) SheetFault → List Arc → List Arc
filled_by (Ok arcs) table = over arcs table
filled_by (Err fault) table = table

-- the table after a sheet was read into it: the sheet's arcs at its front, or as it was where the sheet is declined
unfoldable pub table_after : List ℕ → List Arc → List Arc
table_after bytes table =
    cond (nat_lt (length table) (length (sheet_lines bytes) - 1)) table (filled_by (arcs_of (sheet_lines bytes)) table)
