use Rattle.std.proofs.Common.{sym, ap, ◌∙◌}
use Rattle.method.proofs.Offers.{away, rhs_landing}
use Rattle.method.specs.Values.{rhs}
use Rattle.search.specs.Tables.{told}
use Rattle.search.proofs.offers.Offers.rhs.Goals as goal

pub returns-then-p-self : goal.returns-then-p-self
returns-then-p-self g c =
    let m = g.G.Ground.meaning c.args.self.now.task.now.site.now in
    let s = told c.args.self.now.task.now.aim c.args.self.now.task.now.costs.now c.args.self.now.places.now in
    sym (ap (rhs m s) c.if-p-self.true ∙ rhs_landing m s)

pub returns-else-p-self : goal.returns-else-p-self
returns-else-p-self g c =
    let m = g.G.Ground.meaning c.args.self.now.task.now.site.now in
    let s = told c.args.self.now.task.now.aim c.args.self.now.task.now.costs.now c.args.self.now.places.now in
    c.smallest.ensures ∙ sym (away m s c.args.p c.if-p-self.false)
