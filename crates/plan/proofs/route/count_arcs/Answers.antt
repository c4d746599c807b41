use Rattle.std.proofs.Common.{◌≡◌, ◌+◌, ◌-◌, length, sym, ap, arith}
use Rattle.method.specs.Calls.{follow}
use Rattle.search.specs.Tables.{told}
use Rattle.plan.proofs.Following.{follow_step, follow_end, follow_none}
use Rattle.plan.proofs.route.count_arcs.Goals as goal

pub returns-in_default : goal.returns-in_default
returns-in_default g c =
    let o = c.args.offers.now in
    let t = o.task.now in
    let m = g.G.Ground.meaning t.site.now in
    let n = length o.places.now in
    let s = told t.aim t.costs.now o.places.now in
    let e : n ≡ m.places = o.sized.places_fit in
    omega (arith, c.loop-count.invariant, ap (λ a. length (follow m s a t.aim.here)) e, ap length (follow_end m t.aim t.costs.now o.places.now c.loop-count.p (n - c.loop-count.count) (sym c.in_default.ensures.step)))

pub loop-count-preserved : goal.loop-count-preserved
loop-count-preserved g c =
    let o = c.args.offers.now in
    let t = o.task.now in
    let m = g.G.Ground.meaning t.site.now in
    let n = length o.places.now in
    omega (arith, c.loop-count.invariant, ap length (follow_step m t.aim t.costs.now o.places.now c.loop-count.p (n - c.loop-count.count) (n - (c.loop-count.count + 1)) c.in-Some.field-0-0 c.in-Some.head (omega arith) (sym c.in-Some.ensures.step)))

pub returns : goal.returns
returns g c =
    let o = c.args.offers.now in
    let t = o.task.now in
    let m = g.G.Ground.meaning t.site.now in
    let n = length o.places.now in
    let s = told t.aim t.costs.now o.places.now in
    let e : n ≡ m.places = o.sized.places_fit in
    let z : n - c.loop-count.count ≡ 0 = omega arith in
    omega (arith, c.loop-count.invariant, ap (λ a. length (follow m s a t.aim.here)) e, ap (λ a. length (follow m s a c.loop-count.p)) z, ap length (follow_none m t.aim t.costs.now o.places.now c.loop-count.p))
