use Rattle.std.proofs.Common.{ℕ, List, map, ap, ◌∙◌, arith}
use Rattle.method.proofs.Offers.{smallest_far}
use Rattle.method.specs.Values.{smallest}
use Rattle.ground.specs.Questions.{arcs_from}
use Rattle.search.specs.Tables.{offer_of}
use Rattle.search.proofs.Walking.{smallest_offers}
use Rattle.search.proofs.offers.Offers.smallest.Goals as goal

pub loop-arc-init : goal.loop-arc-init
loop-arc-init g c =
    let m = g.G.Ground.meaning c.args.self.now.task.now.site.now in
    let f : ℕ → ℕ = offer_of m c.args.self.now.task.now.costs.now c.args.self.now.places.now in
    let e = ap (λ (xs : List ℕ). smallest (map f xs)) (c.into_iter-arc-iterator.ensures.into_iter_gives ∙ c.leaving-arc-items.ensures.arcs) in
    (tt, tt, omega arith, omega (arith, e, smallest_far (map f (arcs_from m c.args.p))))

pub loop-arc-preserved : goal.loop-arc-preserved
loop-arc-preserved g c =
    let m = g.G.Ground.meaning c.args.self.now.task.now.site.now in
    let f : ℕ → ℕ = offer_of m c.args.self.now.task.now.costs.now c.args.self.now.places.now in
    let e = ap (λ (xs : List ℕ). smallest (map f xs)) c.in-Some.ensures.steps in
    let inv = c.loop-arc.invariant in
    (tt, tt, omega (arith, inv.2, c.min-least.ensures), omega (arith, e, inv.3, c.min-least.ensures, c.over.ensures))

pub returns : goal.returns
returns g c =
    let m = g.G.Ground.meaning c.args.self.now.task.now.site.now in
    let costs = c.args.self.now.task.now.costs.now in
    let places = c.args.self.now.places.now in
    let f : ℕ → ℕ = offer_of m costs places in
    let e = ap (λ (xs : List ℕ). smallest (map f xs)) c.in-None.ensures.steps.0 in
    let inv = c.loop-arc.invariant in
    (omega (arith, e, inv.2, inv.3)) ∙ smallest_offers m costs places c.args.p
