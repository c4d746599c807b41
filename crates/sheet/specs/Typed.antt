-- Arcs written out as a sheet, and the law that they read back. Assumes nothing.
use Rattle.std.specs.Prelude.{◌≡◌, ℕ, ◌≤◌, List, [], ◌∷◌, ◌++◌, length, take, All, Ok, decimal, Result}
use Rattle.std.specs.List.{flat_map}
use Rattle.terms.specs.Amounts.{far}
use Rattle.terms.specs.declared.arc.Arc.{Arc}
use Rattle.terms.specs.declared.refusal.Refusal.{Refusal}
use Rattle.sheet.specs.declared.columns.Columns.{Columns}
use Rattle.sheet.specs.declared.columns.Columns.TheVariants.{FromToLeast, FromLeastTo, ToFromLeast, ToLeastFrom, LeastFromTo, LeastToFrom}
use Rattle.sheet.specs.declared.read.Sheet.{Sheet}
use Rattle.sheet.specs.Columns.{name_line}
use Rattle.sheet.specs.Sheets.{over}

-- three numbers in decimal, single spaces between them, and byte 10
abbrev pub line_of : ℕ → ℕ → ℕ → List ℕ
line_of x y z = decimal x ++ 32 ∷ (decimal y ++ 32 ∷ (decimal z ++ 10 ∷ []))

-- the line of an arc, under each order of the columns
abbrev pub typed_arc : Columns → Arc → List ℕ
typed_arc FromToLeast a = line_of a.tail a.head a.least
typed_arc FromLeastTo a = line_of a.tail a.least a.head
typed_arc ToFromLeast a = line_of a.head a.tail a.least
typed_arc ToLeastFrom a = line_of a.head a.least a.tail
typed_arc LeastFromTo a = line_of a.least a.tail a.head
typed_arc LeastToFrom a = line_of a.least a.head a.tail

-- arcs written out as a sheet
abbrev pub typed_sheet : Columns → List Arc → List ℕ
typed_sheet order arcs = name_line order ++ 10 ∷ flat_map (typed_arc order) arcs

-- the numbers of an arc can be typed
abbrev pub Typable : Arc → Type 0
Typable a = (a.tail ≤ far) × (a.head ≤ far) × (a.least ≤ far)

-- a sheet may stop here: nothing more comes, or an empty line
abbrev pub Stops : List ℕ → Type 0
Stops [] = Unit {0}
Stops (b ∷ bytes) = b ≡ 10

-- arcs that were written out, in any order of the columns, are read back: the table has them at its front and is else as it was,
-- and the sheet ends behind the empty line, if one comes
abbrev pub ReadsBack : List ℕ → List Arc → Result Sheet Refusal → List Arc → Type 0
ReadsBack bytes was answer now =
    (order : Columns) (arcs : List Arc) (after : List ℕ) → bytes ≡ typed_sheet order arcs ++ after → Stops after → All Typable arcs → length arcs ≤ length was →
    (answer ≡ Ok (record { arcs = length arcs; end = length (typed_sheet order arcs ++ take 1 after) })) × (now ≡ over arcs was)
