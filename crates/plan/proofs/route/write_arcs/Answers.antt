use Rattle.std.proofs.Common.{sym, refl, arith}
use Rattle.plan.proofs.Following.{written_none, written_more, written_short}
use Rattle.plan.proofs.route.write_arcs.Goals as goal

pub loop-slot-init : goal.loop-slot-init
loop-slot-init g c =
    let o = c.args.offers.now in
    written_none (g.G.Ground.meaning o.task.now.site.now) o.task.now.aim o.task.now.costs.now o.places.now c.args.list.now

pub returns-in_default : goal.returns-in_default
returns-in_default g c =
    let o = c.args.offers.now in
    written_short (g.G.Ground.meaning o.task.now.site.now) o.task.now.aim o.task.now.costs.now o.places.now c.args.list.now c.loop-slot.list c.loop-slot.slot-index c.loop-slot.p c.loop-slot.sum c.loop-slot.invariant (omega arith) (sym c.in_default.ensures.step) _

pub loop-slot-preserved : goal.loop-slot-preserved
loop-slot-preserved g c =
    let o = c.args.offers.now in
    written_more (g.G.Ground.meaning o.task.now.site.now) o.task.now.aim o.task.now.costs.now o.places.now c.args.list.now c.loop-slot.list c.loop-slot.slot-index c.loop-slot.p c.loop-slot.sum c.loop-slot.invariant (omega arith) c.in-Some.arc c.in-Some.head c.capped_sum-sum.result (sym c.in-Some.ensures.step) c.capped_sum-sum.ensures _ refl
