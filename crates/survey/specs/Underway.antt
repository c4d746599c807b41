-- Surveys under way, as their labels hold them. Assumes nothing.
use Rattle.std.specs.Prelude.{ℕ, ◌<◌, List, [], Some, None, Option, slice_index}
use Rattle.ground.specs.Meanings.{Meaning}
use Rattle.ground.specs.Questions.{arcs_from}
use Rattle.survey.specs.Labels.{Labelled, Onward, weight}
use Rattle.survey.specs.Sums.{flat, Surveyed}
use Rattle.survey.specs.declared.labels.Labels.{Labels}
use Rattle.survey.specs.declared.task.Task.{Task}
use Rattle.terms.specs.Amounts.{far}

-- the ground of a task, before there are heights
abbrev pub ground_of : Task → Meaning
ground_of task = flat task.net.places task.net.arcs.now

-- the labels are those of a survey with these arcs still to relax
abbrev pub Underway : Task → List ℕ → Labels → Type 0
Underway task pending l = Labelled (ground_of task) task.from pending l.sums.now l.queue.entries.now

-- a step that leaves these arcs to relax
abbrev pub Advanced : Task → List ℕ → Labels → Labels → Type 0
Advanced task pending l l' = Onward (ground_of task) task.from pending l.sums.now l.queue.entries.now l'.sums.now l'.queue.entries.now

-- what taking up a place leaves: its sum is known, its arcs are to relax, and there is less to do; or every sum is the least
abbrev pub TakenUp : Task → Labels → Labels → Option ℕ → Type 0
TakenUp task l l' None = Underway task [] l → Surveyed (ground_of task) task.from l'.sums.now
TakenUp task l l' (Some p) = Underway task [] l → (slice_index l'.sums.now p < far) × Underway task (arcs_from (ground_of task) p) l' × (weight l'.sums.now l'.queue.entries.now < weight l.sums.now l.queue.entries.now)
