use Rattle.std.proofs.Common.{◌≡◌, length}
use Rattle.sheet.specs.Fills.{readable}
use Rattle.sheet.proofs.fill.next_arc.Given as goal

abbrev pub invariant-loop-line : goal.invariant-loop-line
invariant-loop-line l = readable l.columns l.initial.lines ≡ readable l.columns l.lines

abbrev pub decreases-loop-line : goal.decreases-loop-line
decreases-loop-line l = length l.lines
