use Rattle.std.proofs.Common.{arith}
use Rattle.survey.specs.Underway.{ground_of}
use Rattle.survey.proofs.Spreading.{take_up, taken_in, all_least}
use Rattle.survey.proofs.labels.Labels.take_up.Goals as goal

pub returns-in_err-place : goal.returns-in_err-place
returns-in_err-place c task = rw c.from_residual.ensures (λ l. all_least (ground_of task) task.from _ _ task.few (λ j h. (task.net.lawful j h).tail_in) (λ j h. (task.net.lawful j h).least_high) task.there l (c.in_err-place.ensures.done.1 l.sound).content)

pub returns : goal.returns
returns c task l =
    let done = c.in_ok-place.ensures.done l.sound in
    let t = taken_in (ground_of task) task.from _ _ _ _ l done.0 in
    (t.1, take_up (ground_of task) task.from _ _ _ _ _ l c.in_ok-place.ensures.table.size done.0 done.1, omega (arith, done.1.count))
