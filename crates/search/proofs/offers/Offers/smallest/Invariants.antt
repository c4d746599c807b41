use Rattle.std.proofs.Common.{◌≡◌, ◌≤◌, min, map}
use Rattle.ground.specs.Questions.{arcs_from}
use Rattle.method.specs.Values.{smallest}
use Rattle.terms.specs.Amounts.{far}
use Rattle.search.specs.Tables.{offer_of}
use Rattle.search.proofs.offers.Offers.smallest.Given as goal

abbrev pub invariant-loop-arc : goal.invariant-loop-arc
invariant-loop-arc g l =
    (goal.iterator-loop-arc g).can_next l.arc-iterator
    × (goal.iterator-loop-arc g).is_finite l.arc-iterator
    × (l.least ≤ far)
    × (min l.least (smallest (map (offer_of (g.G.Ground.meaning l.self.task.now.site.now) l.self.task.now.costs.now l.self.places.now) l.arc-iterator))
    ≡ smallest (map (offer_of (g.G.Ground.meaning l.self.task.now.site.now) l.self.task.now.costs.now l.self.places.now) (arcs_from (g.G.Ground.meaning l.self.task.now.site.now) l.p)))
