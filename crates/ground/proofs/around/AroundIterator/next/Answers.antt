use Rattle.std.proofs.Common.{length, sym, ap, ◌∙◌, arith}
use Rattle.ground.proofs.EndLaws.{arcs_by-next}
use Rattle.ground.proofs.around.AroundIterator.next.Goals as goal

pub overflow_add-self : goal.overflow_add-self
overflow_add-self g c =
    let next = arcs_by-next _ _ _ _ _ (g.G.Ground.lawful c.self.inside.ground.now) c.in_ok-arc.ensures in
    record { fits = omega (arith, next.0) }

pub returns-clause-steps : goal.returns-clause-steps
returns-clause-steps g c =
    let next = arcs_by-next _ _ _ _ _ (g.G.Ground.lawful c.self.inside.ground.now) c.in_ok-arc.ensures in
    sym c.self.view_is ∙ next.1

pub returns-clause-goes : goal.returns-clause-goes
returns-clause-goes g c =
    let shorter = ap length (returns-clause-steps g c) in
    record { on = λ _. (tt, tt, omega (arith, shorter)); keeps = tt; rests = λ _. tt }
