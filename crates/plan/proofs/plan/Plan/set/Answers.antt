use Rattle.std.proofs.Common.{◌≡◌, ℕ, ◌≤◌, false, [], ◌∷◌, length, Some, Err, sym, refl, ap, ◌∙◌, ap₂, arith}
use Rattle.std.proofs.lemmas.Result.{err_from_is_err_and}
use Rattle.method.specs.Calls.{set_cost, set_refusal, standing}
use Rattle.method.specs.Handed.{Lent, is_short}
use Rattle.plan.specs.Declines.{or_else}
use Rattle.plan.proofs.Admitting.{begun_on_is, not_turned_away, first_room, later_room, was_refused, was_accepted, nothing_beyond, refusal_is, kept_since, carried_since, standing_at}
use Rattle.plan.proofs.Costing.{set_declined, set_done, arc_there}
use Rattle.plan.proofs.Fronting.{part_size, front_rest_at}
use Rattle.plan.proofs.Results.{ok_is}
use Rattle.plan.proofs.plan.Plan.set.Goals as goal

pub returns-in_err-cost : goal.returns-in_err-cost
returns-in_err-cost g c =
    let m = g.G.Ground.meaning c.args.site.now in
    let o = c.args.self.now.header in
    let h = c.in_ok-header.header in
    let b = begun_on_is o m h c.in_ok-header.ensures in
    let costs = c.args.costs.now in
    let places = c.args.places.now in
    let lent : Lent = (length costs, m.arcs) ∷ (length places, m.places) ∷ [] in
    let short : is_short lent ≡ false =
    ap₂ (λ (a n : ℕ). is_short ((length costs, a) ∷ (length places, n) ∷ [])) (sym b.arcs_same) (sym b.places_same) ∙ sym c.if-is_short.ensures in
    let x = c.in_err-cost.field-0.0 in
    let why : set_refusal m c.args.arc c.args.cost ≡ Some x = was_refused (set_refusal m c.args.arc c.args.cost) (standing c.args.cost) x c.in_err-cost.ensures in
    let r = c.from_residual-in_err-cost.result in
    let p = err_from_is_err_and r c.from_residual-in_err-cost.ensures.1 in
    let e : r ≡ Err x = p.1 ∙ ap Err p.2 in
    record {
      declined = refusal_is r x e ∙ sym (ap (λ y. or_else y (set_refusal m c.args.arc c.args.cost)) (not_turned_away o m h b lent short (set_cost c.args.arc c.args.cost)) ∙ why);
      kept = kept_since r x e (standing_at o costs places []) (standing_at o costs places []) refl;
      beyond = nothing_beyond m (standing_at o costs places []);
      state = λ queue. carried_since r x e m (set_cost c.args.arc c.args.cost) (standing_at o costs places queue) (standing_at o costs places queue) (set_declined m o costs places queue c.args.arc c.args.cost x why);
    }

pub returns : goal.returns
returns g c =
    let m = g.G.Ground.meaning c.args.site.now in
    let lawful = g.G.Ground.lawful c.args.site.now in
    let o = c.args.self.now.header in
    let h = c.in_ok-header.header in
    let b = begun_on_is o m h c.in_ok-header.ensures in
    let costs = c.args.costs.now in
    let places = c.args.places.now in
    let arc = c.args.arc in
    let given = c.args.cost in
    let lent : Lent = (length costs, m.arcs) ∷ (length places, m.places) ∷ [] in
    let short : is_short lent ≡ false =
    ap₂ (λ (a n : ℕ). is_short ((length costs, a) ∷ (length places, n) ∷ [])) (sym b.arcs_same) (sym b.places_same) ∙ sym c.if-is_short.ensures in
    let costs_room : m.arcs ≤ length costs = first_room (length costs) m.arcs ((length places, m.places) ∷ []) short in
    let places_room : m.places ≤ length places = first_room (length places) m.places [] (later_room (length costs) m.arcs ((length places, m.places) ∷ []) short) in
    let took = was_accepted (set_refusal m arc given) (standing given) c.in_ok-cost.cost c.in_ok-cost.ensures in
    let ys = c.write_cost.new.costs in
    let zs = c.write_cost.new.places in
    let sy : length ys ≡ h.arcs = omega (arith, part_size h.arcs costs (omega (arith, b.arcs_same)), c.write_cost.auto.costs) in
    let sz : length zs ≡ h.places = omega (arith, part_size h.places places (omega (arith, b.places_same)), c.write_cost.auto.places) in
    record {
      declined = sym (ap (λ y. or_else y (set_refusal m arc given)) (not_turned_away o m h b lent short (set_cost arc given)) ∙ took.0);
      kept = tt;
      beyond = record {
        costs_beyond = front_rest_at h.arcs costs ys sy m.arcs b.arcs_same;
        places_beyond = front_rest_at h.places places zs sz m.places b.places_same;
        queue_beyond = refl;
      };
      state = set_done m lawful o h b costs places costs_room places_room arc given c.in_ok-cost.cost (arc_there m arc given took.0) took.0 took.1 ys zs sy sz c.write_cost.ensures c.in_ok-after.after (ok_is _ _ c.in_ok-after.ensures);
    }
