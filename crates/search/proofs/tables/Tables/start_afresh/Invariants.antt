use Rattle.std.proofs.Common.{◌≡◌, ℕ, ◌<◌, ◌≤◌}
use Rattle.search.specs.Queued.{Synced, reopened}
use Rattle.search.specs.Same.{Same}
use Rattle.search.specs.Tables.{place_at}
use Rattle.search.proofs.tables.Tables.start_afresh.Given as goal

abbrev pub invariant-loop-p : goal.invariant-loop-p
invariant-loop-p g l = record {
  same : Same l.fn.self l.self;
  synced : Synced (g.G.Ground.meaning l.fn.self.task.now.site.now) l.fn.self.task.now.aim l.p l.self.places.now l.self.entries.now;
  reopened : (q : ℕ) → q < l.p → place_at l.self.places.now q ≡ reopened (place_at l.fn.self.places.now q);
  left : (q : ℕ) → l.p ≤ q → place_at l.self.places.now q ≡ place_at l.fn.self.places.now q;
}
