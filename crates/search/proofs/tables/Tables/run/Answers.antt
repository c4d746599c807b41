use Rattle.std.proofs.Common.{List, true, None, Some, sym, subst, arith}
use Rattle.search.specs.declared.place.Place.{Place}
use Rattle.search.specs.Steps.{TurnMade, RunMade}
use Rattle.search.proofs.OneTask.{same_on, due_on, made_on}
use Rattle.search.proofs.Runs.{one_turn_more, stops_early, stops_late, none_is_ended}
use Rattle.search.proofs.tables.Tables.run.Goals as goal

pub returns-in_default-clause-made : goal.returns-in_default-clause-made
returns-in_default-clause-made g c =
    let t = c.args.self.now in
    let m = g.G.Ground.meaning t.task.now.site.now in
    let u = c.loop-made.self in
    let v = c.due.new.self in
    let d = c.in_default.ensures in
    let inv = c.loop-made.invariant in
    subst (λ (ps : List Place). RunMade m t.task.now.aim t.task.now.costs.now c.args.turns t.places.now t.entries.now ps v.entries.now (record { settled = true; turns = c.from.result })) (sym d.places)
    (stops_early m t.task.now.aim t.task.now.costs.now c.args.turns t.places.now t.entries.now c.loop-made.made u.places.now u.entries.now v.entries.now d.entries inv.under_way c.from.result c.from.ensures
    (due_on t u inv.same u.places.now u.entries.now None d.due))

pub loop-made-preserved : goal.loop-made-preserved
loop-made-preserved g c =
    let t = c.args.self.now in
    let m = g.G.Ground.meaning t.task.now.site.now in
    let u = c.loop-made.self in
    let v = c.due.new.self in
    let w = c.turn.new.self in
    let d = c.in-Some.ensures in
    let inv = c.loop-made.invariant in
    record {
      same = same_on t v w (same_on t u v inv.same d.same) c.turn.ensures.same;
      under_way = one_turn_more m t.task.now.aim t.task.now.costs.now c.args.turns t.places.now t.entries.now c.loop-made.made u.places.now u.entries.now v.entries.now d.entries inv.under_way c.in-Some.p w.places.now w.entries.now (omega arith)
          (due_on t u inv.same u.places.now u.entries.now (Some c.in-Some.p) d.due)
          (subst (λ (ps : List Place). TurnMade m t.task.now.aim t.task.now.costs.now c.in-Some.p ps v.entries.now w.places.now w.entries.now) d.places (made_on t v (same_on t u v inv.same d.same) c.in-Some.p v.places.now v.entries.now w.places.now w.entries.now c.turn.ensures.made));
    }

pub returns-clause-made : goal.returns-clause-made
returns-clause-made g c =
    let t = c.args.self.now in
    let m = g.G.Ground.meaning t.task.now.site.now in
    let u = c.loop-made.self in
    let v = c.due-2.new.self in
    let d = c.due-2.ensures in
    let inv = c.loop-made.invariant in
    subst (λ (ps : List Place). RunMade m t.task.now.aim t.task.now.costs.now c.args.turns t.places.now t.entries.now ps v.entries.now (record { settled = c.is_none.result; turns = c.from-2.result })) (sym d.places)
    (stops_late m t.task.now.aim t.task.now.costs.now c.args.turns t.places.now t.entries.now c.loop-made.made u.places.now u.entries.now v.entries.now d.entries inv.under_way c.from-2.result (omega arith) c.is_none.result (omega arith)
    (λ st s sh. none_is_ended m s c.due-2.result c.is_none.result c.is_none.ensures (due_on t u inv.same u.places.now u.entries.now c.due-2.result d.due st s sh)))
