use Rattle.std.proofs.Common.{◌≡◌, ℕ, ◌<◌, ◌∙◌, ltb, rules}
use Rattle.ground.proofs.ArcsAt.{arcs_at-at}
use Rattle.ground.specs.Questions.{arcs_from}
use Rattle.std.proofs.lemmas.Bool.{cond-true, lt-ltb}
use Rattle.terms.specs.Amounts.{far}
use Rattle.search.specs.Tables.{offer_of, offered}
use Rattle.search.proofs.Picking.{picked}
use Rattle.search.proofs.offers.Offers.cheapest.Goals as goal

pub returns : goal.returns
returns g c =
    let m = g.G.Ground.meaning c.args.self.now.task.now.site.now in
    let f : ℕ → ℕ = offered m c.args.self.now.task.now.costs.now c.args.self.now.places.now in
    picked f _ _ (λ x. x < m.arcs) (λ x k after there called. let e : k ≡ offer_of m c.args.self.now.task.now.costs.now c.args.self.now.places.now x = search rules in (e ∙ cond-true (ltb x m.arcs) (f x) far (lt-ltb x m.arcs there), search rules)) (arcs_from m c.args.p) c.leaving.result c.leaving.ensures.arcs (λ k x e. (arcs_at-at m.tail m.arcs c.args.p k x e).0) c.min_by_key.result c.min_by_key.ensures.ran
