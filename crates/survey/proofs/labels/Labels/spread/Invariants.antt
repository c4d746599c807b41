use Rattle.std.proofs.Common.{[]}
use Rattle.survey.specs.Labels.{weight}
use Rattle.survey.specs.Underway.{Underway}
use Rattle.survey.proofs.labels.Labels.spread.Given as goal

abbrev pub invariant-loop-place : goal.invariant-loop-place
invariant-loop-place l = Underway l.task [] l.self

abbrev pub decreases-loop-place : goal.decreases-loop-place
decreases-loop-place l = weight l.self.sums.now l.self.queue.entries.now
