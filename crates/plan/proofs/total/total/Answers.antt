use Rattle.std.proofs.Common.{get_or, refl, arith}
use Rattle.plan.proofs.Totals.{sum_start}
use Rattle.plan.proofs.total.total.Goals as goal

pub loop-arc-init : goal.loop-arc-init
loop-arc-init c = (refl, sum_start (λ j. get_or c.args.costs.now j 0) c.args.arcs.now, omega arith)
