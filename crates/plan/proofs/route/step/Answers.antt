use Rattle.std.proofs.Common.{ltb, sym}
use Rattle.std.proofs.lemmas.Bool.{both_ways, lt-ltb}
use Rattle.ground.specs.KnownLaws.{known_none}
use Rattle.plan.proofs.Following.{best_in}
use Rattle.plan.proofs.route.step.Goals as goal

pub returns-in_err-head-clause-step : goal.returns-in_err-head-clause-step
returns-in_err-head-clause-step g c =
    let t = c.args.offers.now.task.now in
    let m = g.G.Ground.meaning t.site.now in
    let j = c.in_ok-arc.arc in
    let there = best_in m t.costs.now c.args.offers.now.places.now c.args.p j (sym c.in_ok-arc.ensures) in
    absurd (both_ways (ltb j m.arcs) (known_none (ltb j m.arcs) (m.head j) (sym c.in_err-head.ensures)) (lt-ltb _ _ there))
