use Rattle.std.proofs.Common.{◌≤◌, mul-le-mul_right, arith}
use Rattle.search.proofs.place.Place.key.Goals as goal

pub overflow_add-result : goal.overflow_add-result
overflow_add-result c =
    let low : c.from-then-self.result ≤ 160 = omega (arith, c.args.slack.high) in
    record { fits = omega (arith, mul-le-mul_right c.from-then-self-2.result low) }
