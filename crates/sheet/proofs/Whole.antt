-- How many arcs a sheet names. Assumes nothing.
use Rattle.std.proofs.Common.{◌≡◌, ℕ, ◌+◌, ◌-◌, List, [], ◌∷◌, length, Some, None, Ok, Err, Option, Result, refl, ap, arith}
use Rattle.terms.specs.declared.arc.Arc.{Arc}
use Rattle.terms.specs.declared.fault.LineFault.{LineFault}
use Rattle.terms.specs.declared.fault.SheetFault.{SheetFault}
use Rattle.sheet.specs.declared.columns.Columns.{Columns}
use Rattle.sheet.specs.Columns.{columns_of}
use Rattle.sheet.specs.Sheets.{row_of, rows_of, arcs_of, arcs_under, in_line, and_these}

-- a sheet without fault names as many arcs as it has lines of values
rows_count : (order : Columns) (k : ℕ) (lines : List (List ℕ)) (arcs : List Arc) → rows_of order k lines ≡ Ok arcs → length arcs ≡ length lines
rows_count order k [] arcs e = let same : arcs ≡ [] = cc in ap length same
rows_count order k (line ∷ lines) arcs e = first (row_of order line) e (rows_count order (k + 1) lines)
  where
    rest : (arc : Arc) (r : Result (List Arc) SheetFault) → rows_of order (k + 1) lines ≡ r → and_these arc r ≡ Ok arcs → ((more : List Arc) → rows_of order (k + 1) lines ≡ Ok more → length more ≡ length lines) → length arcs ≡ length (line ∷ lines)
    rest arc (Ok more) h is so = let same : arcs ≡ arc ∷ more = cc in omega (arith, ap length same, so more h)
    rest arc (Err f) h is so = absurd (let z : ◌≡◌ {A = ℕ} 0 1 = cc in omega arith)

    first : (r : Result Arc LineFault) → in_line k r (λ arc. and_these arc (rows_of order (k + 1) lines)) ≡ Ok arcs → ((more : List Arc) → rows_of order (k + 1) lines ≡ Ok more → length more ≡ length lines) → length arcs ≡ length (line ∷ lines)
    first (Ok arc) is so = rest arc (rows_of order (k + 1) lines) refl is so
    first (Err f) is so = absurd (let z : ◌≡◌ {A = ℕ} 0 1 = cc in omega arith)

pub arcs_count : (lines : List (List ℕ)) (arcs : List Arc) → arcs_of lines ≡ Ok arcs → length arcs ≡ length lines - 1
arcs_count [] arcs e = absurd (let z : ◌≡◌ {A = ℕ} 0 1 = cc in omega arith)
arcs_count (names ∷ lines) arcs e = named (columns_of names) e
  where
    named : (o : Option Columns) → arcs_under o lines ≡ Ok arcs → length arcs ≡ length (names ∷ lines) - 1
    named None h = absurd (let z : ◌≡◌ {A = ℕ} 0 1 = cc in omega arith)
    named (Some order) h = omega (arith, rows_count order 2 lines arcs h)
