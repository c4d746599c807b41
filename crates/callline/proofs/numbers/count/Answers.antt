use Rattle.std.proofs.Common.{length, ap, arith}
use Rattle.callline.proofs.Reading.{fields_few}
use Rattle.callline.proofs.numbers.count.Goals as goal

pub overflow_add-count : goal.overflow_add-count
overflow_add-count c =
    record { fits = omega (arith, c.well_formed, fields_few c.args.text.now, c.loop-field.invariant.2, ap length c.in-Some.ensures.steps) }
