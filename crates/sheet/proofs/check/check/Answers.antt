use Rattle.std.proofs.Common.{◌≡◌, Ok, inl, arith}
use Rattle.sheet.specs.Lines.{sheet_lines}
use Rattle.sheet.specs.Sheets.{row_of}
use Rattle.sheet.proofs.Checking.{line_right}
use Rattle.sheet.proofs.Extents.{sheet_span, lines_few}
use Rattle.sheet.proofs.check.check.Goals as goal

pub loop-k-init-derived : goal.loop-k-init-derived
loop-k-init-derived c = grind (arith, sheet_span, lines_few)

pub loop-k-preserved : goal.loop-k-preserved
loop-k-preserved c =
    let steps = c.in-Some.ensures.steps in
    let named : row_of c.in_ok-columns.columns c.in-Some.line.now ≡ Ok c.in_ok-placed.field-0 = grind arith in
    let more = line_right (rw steps.0 at c.loop-k.invariant.3) c.in_ok-placed.field-0 named in
    ((tt, tt, inl (grind (arith, sheet_span c.args.bytes.now, lines_few (sheet_lines c.args.bytes.now)))), tt, c.loop-k.invariant.2, rw steps.2 more)
