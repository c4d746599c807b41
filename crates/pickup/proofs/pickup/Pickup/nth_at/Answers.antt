use Rattle.std.proofs.Common.{◌+◌, ◌*◌, ◌&&◌, eqb, Some, sym, ap, ◌∙◌, ap₂, arith}
use Rattle.std.specs.List.{slice_get}
use Rattle.ground.proofs.ArcsAt.{arcs_at-beyond, arcs_at-at}
use Rattle.ground.proofs.EndLaws.{end_in}
use Rattle.ground.specs.Ends.{end_of, arcs_by}
use Rattle.ground.specs.Questions.{known}
use Rattle.pickup.proofs.Listed.{layer_at, first_few, nth_copy, nth_extra}
use Rattle.pickup.proofs.pickup.Pickup.nth_at.Goals as goal
use Rattle.pickup.specs.LayerLaws.{layered_lawful}
use Rattle.pickup.specs.Layers.{layered}

pub returns-in_err-side : goal.returns-in_err-side
returns-in_err-side g c =
    let b = g.G.Ground.meaning c.args.self.now.below.now in
    let m = layered b c.args.self.now.at in
    let l = layered_lawful b c.args.self.now.at (g.G.Ground.lawful c.args.self.now.below.now) in
    c.from_residual.ensures ∙ sym (ap (λ xs. slice_get xs c.args.k) (arcs_at-beyond (end_of c.args.end m) m.arcs m.places c.args.place (end_in c.args.end m l) c.in_err-side.ensures))

pub copy_of-requires : goal.copy_of-requires
copy_of-requires g c =
    let b = g.G.Ground.meaning c.args.self.now.below.now in
    let l = g.G.Ground.lawful c.args.self.now.below.now in
    let s = c.in_ok-side.side in
    let few = l.few_arcs in
    let under = arcs_at-at (end_of c.args.end b) b.arcs s.place c.args.k c.in-Some.arc (sym c.nth_at.ensures ∙ c.in-Some.is) in
    let low = first_few b c.args.place s.first c.in_ok-side.ensures.2 in
    (omega arith, omega arith)

pub returns-in-Some : goal.returns-in-Some
returns-in-Some g c =
    let b = g.G.Ground.meaning c.args.self.now.below.now in
    let l = g.G.Ground.lawful c.args.self.now.below.now in
    let s = c.in_ok-side.side in
    let o = c.in_ok-side.ensures in
    ap Some c.copy_of.ensures
    ∙ sym (ap (λ xs. slice_get xs c.args.k) (layer_at c.args.end b c.args.self.now.at l c.args.place s.place s.first o.0 o.1 o.2)
    ∙ nth_copy (λ j. s.first + j) (arcs_by c.args.end b s.place) _ (2 * b.arcs) c.args.k c.in-Some.arc (sym c.nth_at.ensures ∙ c.in-Some.is))

pub returns-in-None : goal.returns-in-None
returns-in-None g c =
    let b = g.G.Ground.meaning c.args.self.now.below.now in
    let l = g.G.Ground.lawful c.args.self.now.below.now in
    let s = c.in_ok-side.side in
    let o = c.in_ok-side.ensures in
    c.crossing.ensures
    ∙ ap₂ (λ here n. known (here && eqb c.args.k n) (2 * b.arcs)) c.crosses_at.ensures c.count_at.ensures
    ∙ sym (ap (λ xs. slice_get xs c.args.k) (layer_at c.args.end b c.args.self.now.at l c.args.place s.place s.first o.0 o.1 o.2)
    ∙ nth_extra (λ j. s.first + j) (arcs_by c.args.end b s.place) _ (2 * b.arcs) c.args.k (sym c.nth_at.ensures ∙ c.in-None.is))
