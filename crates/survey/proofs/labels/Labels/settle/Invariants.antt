use Rattle.std.proofs.Common.{ℕ, ◌≤◌, get_or, drop}
use Rattle.survey.specs.Underway.{Advanced}
use Rattle.survey.proofs.labels.Labels.settle.Given as goal

abbrev pub invariant-loop-j : goal.invariant-loop-j
invariant-loop-j l = record {
  falls : (p : ℕ) → get_or l.self.sums.now p 0 ≤ get_or l.initial.self.sums.now p 0;
  onward : Advanced l.task (drop l.j-index l.j-items) l.initial.self l.self;
}
