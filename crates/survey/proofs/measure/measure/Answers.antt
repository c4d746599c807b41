use Rattle.std.proofs.Common.{ℕ, List, subst}
use Rattle.survey.specs.Surveys.{HandedOver}
use Rattle.survey.proofs.Measuring.{measured}
use Rattle.survey.proofs.measure.measure.Goals as goal

pub returns : goal.returns
returns c =
    let task = c.args.task.now in
    let over = subst (λ (xs : List ℕ). HandedOver xs c.args.heights.now c.hand_over.new.heights c.hand_over.result) c.sums.ensures c.hand_over.ensures in
    measured task.from task.net.places task.net.arcs.now task.net.lawful _ _ _ c.spread.ensures c.hand_over.result over
