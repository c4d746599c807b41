use Rattle.std.proofs.Common.{◌≡◌, ◌+◌, ◌-◌, length}
use Rattle.method.specs.Calls.{follow}
use Rattle.search.specs.Tables.{told}
use Rattle.plan.proofs.route.count_arcs.Given as goal

abbrev pub invariant-loop-count : goal.invariant-loop-count
invariant-loop-count g l =
    length (follow (g.G.Ground.meaning l.offers.task.now.site.now) (told l.offers.task.now.aim l.offers.task.now.costs.now l.offers.places.now) (length l.offers.places.now) l.offers.task.now.aim.here)
    ≡ l.count + length (follow (g.G.Ground.meaning l.offers.task.now.site.now) (told l.offers.task.now.aim l.offers.task.now.costs.now l.offers.places.now) (length l.offers.places.now - l.count) l.p)
