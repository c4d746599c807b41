use Rattle.std.proofs.Common.{drop}
use Rattle.sheet.specs.Fills.{readable}
use Rattle.sheet.specs.Lines.{sheet_lines}
use Rattle.sheet.proofs.Filling.{Filling}
use Rattle.sheet.proofs.fill.fill.Given as goal

abbrev pub invariant-loop-entry : goal.invariant-loop-entry
invariant-loop-entry l =
    Filling (readable l.columns (drop 1 (sheet_lines l.bytes))) l.initial.table l.table l.entry-index (readable l.columns l.lines)
