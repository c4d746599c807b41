use Rattle.std.proofs.Common.{length, ap, arith}
use Rattle.sheet.specs.Lines.{sheet_lines, span}
use Rattle.sheet.proofs.Extents.{span_more, sheet_span, lines_few}
use Rattle.sheet.proofs.extent.extent.Goals as goal

pub overflow_add-lines : goal.overflow_add-lines
overflow_add-lines c =
    let bytes = c.args.bytes.now in
    record { fits = omega (arith, c.well_formed, sheet_span bytes, lines_few (sheet_lines bytes), c.loop-line.invariant.2, ap length c.in-Some.ensures.steps) }

pub overflow_add-taken-in-loop-line : goal.overflow_add-taken-in-loop-line
overflow_add-taken-in-loop-line c =
    record { fits = omega (arith, c.well_formed, sheet_span c.args.bytes.now, c.loop-line.invariant.3, ap span c.in-Some.ensures.steps, span_more c.in-Some.line.now c.next.new.self) }
