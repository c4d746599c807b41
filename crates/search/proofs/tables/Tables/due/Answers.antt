use Rattle.std.proofs.Common.{ℕ, Option, sym, subst, arith}
use Rattle.search.specs.Steps.{Due}
use Rattle.search.proofs.Dues.{none_due, due_in, over_due, next_due}
use Rattle.search.proofs.tables.Tables.due.Goals as goal
use Rattle.search.proofs.tables.Tables.due.Goals.{then-p-places-via-then-p-places, then-p-places-via-else-p-places+then-here_is_first}

pub returns-in_err-p-clause-due : goal.returns-in_err-p-clause-due
returns-in_err-p-clause-due g c = λ st s sh.
    let m = g.G.Ground.meaning c.args.self.now.task.now.site.now in
    let law = g.G.Ground.lawful c.args.self.now.task.now.site.now in
    let aim = c.args.self.now.task.now.aim in
    let es = c.args.self.now.entries.now in
    subst (λ (z : Option ℕ). Due m s z) (sym c.from_residual.ensures)
    (none_due m law aim c.args.self.now.task.now.costs.now c.args.self.now.places.now es c.args.self.now.here st s sh (c.in_err-p.ensures.smallest st.synced.sound))

pub returns-then-p-places-clause-due : goal.returns-then-p-places-clause-due
returns-then-p-places-clause-due g c = λ st s sh.
    let m = g.G.Ground.meaning c.args.self.now.task.now.site.now in
    let law = g.G.Ground.lawful c.args.self.now.task.now.site.now in
    let aim = c.args.self.now.task.now.aim in
    let costs = c.args.self.now.task.now.costs.now in
    let places = c.args.self.now.places.now in
    let es = c.args.self.now.entries.now in
    let leads = c.in_ok-p.ensures.smallest st.synced.sound in
    elim c.then-p-places.branch [
      | then-p-places-via-then-p-places w ↦ absurd (omega (arith, w.if-p-places.true, c.places.ensures, due_in m law aim costs places es c.args.self.now.here st s sh c.in_ok-p.p c.in_ok-p.key leads))
      | then-p-places-via-else-p-places+then-here_is_first w ↦ over_due m law aim costs places es c.args.self.now.here st s sh c.in_ok-p.p c.in_ok-p.key leads (sym w.if-here_is_first.ensures)
    ]

pub returns-clause-due : goal.returns-clause-due
returns-clause-due g c = λ st s sh.
    let m = g.G.Ground.meaning c.args.self.now.task.now.site.now in
    let law = g.G.Ground.lawful c.args.self.now.task.now.site.now in
    next_due m law c.args.self.now.task.now.aim c.args.self.now.task.now.costs.now c.args.self.now.places.now c.args.self.now.entries.now c.args.self.now.here st s sh c.in_ok-p.p c.in_ok-p.key
    (c.in_ok-p.ensures.smallest st.synced.sound) (sym c.if-here_is_first.ensures)
