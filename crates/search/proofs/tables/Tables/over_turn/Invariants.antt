use Rattle.std.proofs.Common.{◌≡◌, ℕ, drop}
use Rattle.ground.specs.Questions.{arcs_into}
use Rattle.search.specs.Same.{Same}
use Rattle.search.specs.Turning.{StaysSynced}
use Rattle.search.proofs.Lowering.{Lowering}
use Rattle.search.proofs.tables.Tables.over_turn.Given as goal

abbrev pub invariant-loop-arc : goal.invariant-loop-arc
invariant-loop-arc g l =
    (goal.iterator-loop-arc g).can_next l.arc-iterator
    × (goal.iterator-loop-arc g).is_finite l.arc-iterator
    × Same l.fn.self l.self
    × ((k : ℕ) × (l.arc-iterator ≡ drop k (arcs_into (g.G.Ground.meaning l.fn.self.task.now.site.now) l.p))
    × Lowering (g.G.Ground.meaning l.fn.self.task.now.site.now) l.fn.self.task.now.aim l.fn.self.task.now.costs.now l.p l.value l.initial.self.places.now k l.self.places.now)
    × StaysSynced (g.G.Ground.meaning l.fn.self.task.now.site.now) l.fn.self.task.now.aim l.initial.self.places.now l.initial.self.entries.now l.self.places.now l.self.entries.now
