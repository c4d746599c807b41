use Rattle.std.proofs.Common.{arith}
use Rattle.search.proofs.Turning.{over_made, under_made}
use Rattle.search.proofs.tables.Tables.turn.Goals as goal

pub returns-then-place-clause-made : goal.returns-then-place-clause-made
returns-then-place-clause-made g c =
    let t = c.args.self.now in
    let m = g.G.Ground.meaning t.task.now.site.now in
    over_made m (g.G.Ground.lawful t.task.now.site.now) t.task.now.aim t.task.now.costs.now c.args.p c.requires t.places.now t.entries.now c.over_turn.new.self.places.now c.over_turn.new.self.entries.now (omega (arith, c.if-place.true)) c.over_turn.ensures.turned c.over_turn.ensures.synced

pub returns-else-place-clause-made : goal.returns-else-place-clause-made
returns-else-place-clause-made g c =
    let t = c.args.self.now in
    let m = g.G.Ground.meaning t.task.now.site.now in
    under_made m (g.G.Ground.lawful t.task.now.site.now) t.task.now.aim t.task.now.costs.now c.args.p c.requires t.places.now t.entries.now c.under_turn.new.self.places.now c.under_turn.new.self.entries.now (omega (arith, c.if-place.false)) c.under_turn.ensures.turned c.under_turn.ensures.synced
