use Rattle.std.proofs.Common.{◌+◌, ◌*◌, length, sym, ap, ◌∙◌, arith}
use mir.Val.{bool_byte}
use Rattle.ground.proofs.ArcsAt.{arcs_at-beyond, arcs_at-few}
use Rattle.ground.proofs.EndLaws.{end_in}
use Rattle.ground.specs.Ends.{end_of, arcs_by}
use Rattle.pickup.proofs.Listed.{layer_at, length_more, byte_is}
use Rattle.pickup.proofs.pickup.Pickup.count_at.Goals as goal
use Rattle.pickup.specs.LayerLaws.{layered_lawful}
use Rattle.pickup.specs.Layers.{layered}

pub overflow_add-result : goal.overflow_add-result
overflow_add-result g c =
    let b = g.G.Ground.meaning c.args.self.now.below.now in
    let l = g.G.Ground.lawful c.args.self.now.below.now in
    record { fits = omega (arith, l.few_arcs, arcs_at-few (end_of c.args.end b) b.arcs c.in-Some.side.place, c.count_at.ensures, c.from.ensures, (byte_is c.crosses_at.result).1) }

pub returns-in-Some : goal.returns-in-Some
returns-in-Some g c =
    let b = g.G.Ground.meaning c.args.self.now.below.now in
    let l = g.G.Ground.lawful c.args.self.now.below.now in
    let s = c.in-Some.side in
    let o = c.in-Some.ensures in
    let whole = ap length (layer_at c.args.end b c.args.self.now.at l c.args.place s.place s.first o.0 o.1 o.2) ∙ length_more (λ j. s.first + j) (arcs_by c.args.end b s.place) _ (2 * b.arcs) in
    omega (arith, whole, c.count_at.ensures, c.from.ensures ∙ ap bool_byte c.crosses_at.ensures ∙ (byte_is _).0)

pub returns-in-None : goal.returns-in-None
returns-in-None g c =
    let b = g.G.Ground.meaning c.args.self.now.below.now in
    let m = layered b c.args.self.now.at in
    let l = layered_lawful b c.args.self.now.at (g.G.Ground.lawful c.args.self.now.below.now) in
    sym (ap length (arcs_at-beyond (end_of c.args.end m) m.arcs m.places c.args.place (end_in c.args.end m l) c.in-None.ensures))
