use Rattle.std.proofs.Common.{◌≡◌, ◌+◌, length}
use Rattle.sheet.specs.Lines.{sheet_lines, span}
use Rattle.sheet.proofs.extent.extent.Given as goal

abbrev pub invariant-loop-line : goal.invariant-loop-line
invariant-loop-line l =
    (goal.iterator-loop-line).can_next l.line-iterator ×
    (goal.iterator-loop-line).is_finite l.line-iterator ×
    (l.lines + length l.line-iterator ≡ length (sheet_lines l.bytes)) ×
    (l.taken + span l.line-iterator ≡ span (sheet_lines l.bytes))
