use Rattle.std.proofs.Common.{◌≡◌, ◌+◌, None, refl, ap, ◌∙◌, arith}
use Rattle.ground.specs.Questions.{arcs_into}
use Rattle.std.specs.List.{slice_get}
use Rattle.terms.specs.Amounts.{far}
use Rattle.search.specs.Tables.{place_at}
use Rattle.search.proofs.Raising.{raising_none, raising_more, raised_all}
use Rattle.search.proofs.OneTask.{same_on, raised_on, synced_on}
use Rattle.search.proofs.Walking.{next_left, none_left}
use Rattle.search.proofs.Writing.{begun}
use Rattle.search.proofs.tables.Tables.under_turn.Goals as goal

pub loop-arc-init : goal.loop-arc-init
loop-arc-init g c =
    let same = c.store.ensures.same in
    let m = g.G.Ground.meaning c.args.self.now.task.now.site.now in (
      tt,
      tt,
      same,
      (
        0,
        c.into_iter-arc-iterator.ensures.into_iter_gives ∙ c.entering-arc-items.ensures.arcs ∙ ap (λ t. arcs_into (g.G.Ground.meaning t.now.site.now) c.args.p) same.task,
        raising_none m c.args.self.now.task.now.aim c.args.self.now.task.now.costs.now c.args.p (place_at c.args.self.now.places.now c.args.p).g c.store.new.self.places.now,
      ),
      λ s. s,
    )

pub loop-arc-preserved : goal.loop-arc-preserved
loop-arc-preserved g c =
    let m = g.G.Ground.meaning c.args.self.now.task.now.site.now in
    let inv = c.loop-arc.invariant in
    let k = inv.3.0 in
    let same = inv.2 in
    let there = next_left (arcs_into m c.args.p) c.loop-arc.arc-iterator k inv.3.1 c.in-Some.arc c.next.new.self c.in-Some.ensures.steps in (
      tt,
      tt,
      same_on c.args.self.now c.loop-arc.self c.raise.new.self same c.raise.ensures.same,
      (
        k + 1,
        there.1,
        raising_more m c.args.self.now.task.now.aim c.args.self.now.task.now.costs.now c.args.p (place_at c.args.self.now.places.now c.args.p).g c.store.new.self.places.now k c.loop-arc.self.places.now c.raise.new.self.places.now inv.3.2 c.in-Some.arc there.0
            (raised_on c.args.self.now c.loop-arc.self same c.in-Some.arc _ c.loop-arc.self.places.now c.raise.new.self.places.now c.raise.ensures.raised),
      ),
      λ s. synced_on c.args.self.now c.loop-arc.self same c.loop-arc.self.places.now c.raise.new.self.places.now c.loop-arc.self.entries.now c.raise.new.self.entries.now c.raise.ensures.synced (inv.4 s),
    )

pub returns-clause-turned : goal.returns-clause-turned
returns-clause-turned g c =
    let m = g.G.Ground.meaning c.args.self.now.task.now.site.now in
    let aim = c.args.self.now.task.now.aim in
    let costs = c.args.self.now.task.now.costs.now in
    let inv = c.loop-arc.invariant in
    let before = c.args.self.now.places.now in
    let none : slice_get (arcs_into m c.args.p) inv.3.0 ≡ None = none_left (arcs_into m c.args.p) c.loop-arc.arc-iterator inv.3.0 inv.3.1 c.in-None.ensures.steps.0 in
    let b = begun before c.store.new.self.places.now c.args.p (record { g = far; rhs = (place_at before c.args.p).rhs; closed = (place_at before c.args.p).closed }) (omega (arith, c.args.self.now.sized.places_fit, c.requires)) c.store.ensures.written refl in
    raised_all m aim costs c.args.p (place_at before c.args.p).g c.store.new.self.places.now (place_at before c.args.p).closed before inv.3.0 c.loop-arc.self.places.now b inv.3.2 none refl
