use Rattle.std.proofs.Common.{◌≡◌, drop}
use Rattle.sheet.specs.Lines.{sheet_lines}
use Rattle.sheet.specs.Sheets.{rows_of, arcs_of}
use Rattle.sheet.proofs.Checking.{Reading}
use Rattle.sheet.proofs.check.check.Given as goal

abbrev pub invariant-loop-k : goal.invariant-loop-k
invariant-loop-k l =
    (goal.iterator-loop-k).can_next l.k-iterator ×
    (goal.iterator-loop-k).is_finite l.k-iterator ×
    (arcs_of (sheet_lines l.bytes) ≡ rows_of l.columns 2 (drop 1 (sheet_lines l.bytes))) ×
    Reading l.columns (drop 1 (sheet_lines l.bytes)) l.k-iterator.count l.k-iterator.iter
