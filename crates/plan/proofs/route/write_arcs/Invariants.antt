use Rattle.plan.proofs.Following.{WrittenTo}
use Rattle.plan.proofs.route.write_arcs.Given as goal

abbrev pub invariant-loop-slot : goal.invariant-loop-slot
invariant-loop-slot g l = WrittenTo (g.G.Ground.meaning l.offers.task.now.site.now) l.offers.task.now.aim l.offers.task.now.costs.now l.offers.places.now l.fn.list l.list l.slot-index l.p l.sum
