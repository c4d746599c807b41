-- What a driver is told of a typed sheet. Assumes nothing.
use Rattle.std.specs.Prelude.{ℕ, ◌+◌, List, [], ◌∷◌, ◌++◌, length, take, Ok, Err, codes, decimal, Result}
use Rattle.terms.specs.declared.arc.Arc.{Arc}
use Rattle.terms.specs.declared.refusal.Refusal.{Refusal}
use Rattle.terms.specs.Refusals.{number_of}
use Rattle.terms.specs.Words.{refusal_words}
use Rattle.sheet.specs.declared.read.Sheet.{Sheet}
use Rattle.sheet.specs.Places.{places_of}
use Rattle.sheet.specs.Sheets.{sheet_of, table_after}

-- the line of one arc under its number
abbrev pub arc_text : ℕ → Arc → List ℕ
arc_text k a =
    codes "arc " ++ (decimal k ++ (codes ": from " ++ (decimal a.tail ++ (codes " to " ++ (decimal a.head ++ (codes ", least cost " ++ (decimal a.least ++ (10 ∷ []))))))))

-- the lines of arcs, the first of them number k
abbrev pub arcs_text : ℕ → List Arc → List ℕ
arcs_text k [] = []
arcs_text k (a ∷ arcs) = arc_text k a ++ arcs_text (k + 1) arcs

-- how many places and arcs there are
abbrev pub counts_text : List Arc → List ℕ
counts_text arcs = decimal (places_of arcs) ++ (codes " places, " ++ (decimal (length arcs) ++ (codes " arcs" ++ (10 ∷ []))))

-- a refusal: its number, and what it means
abbrev pub refusal_text : Refusal → List ℕ
refusal_text refusal = codes "refused " ++ (decimal (number_of refusal) ++ (codes ": " ++ (refusal_words refusal ++ (10 ∷ []))))

-- the report on an answer of the sheet reader, with the table as it left it
abbrev pub report_on : Result Sheet Refusal → List Arc → List ℕ
report_on (Ok sheet) table = arcs_text 0 (take sheet.arcs table) ++ counts_text (take sheet.arcs table)
report_on (Err refusal) table = refusal_text refusal

-- the report on the sheet that a text begins with, read into a table
unfoldable pub report_of : List ℕ → List Arc → List ℕ
report_of bytes table = report_on (sheet_of bytes (length table)) (table_after bytes table)
