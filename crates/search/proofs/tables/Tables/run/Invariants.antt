use Rattle.search.specs.Same.{Same}
use Rattle.search.proofs.Runs.{UnderWay}
use Rattle.search.proofs.tables.Tables.run.Given as goal

abbrev pub invariant-loop-made : goal.invariant-loop-made
invariant-loop-made g l = record {
  same : Same l.fn.self l.self;
  under_way : UnderWay (g.G.Ground.meaning l.fn.self.task.now.site.now) l.fn.self.task.now.aim l.fn.self.task.now.costs.now l.turns l.fn.self.places.now l.fn.self.entries.now l.made l.self.places.now l.self.entries.now;
}
