use Rattle.std.proofs.Common.{◌≡◌, ℕ, ◌≤◌, false, [], ◌∷◌, length, sym, refl, ◌∙◌, ap₂, arith}
use Rattle.method.specs.Handed.{Lent, is_short}
use Rattle.method.specs.Pasts.{Accepted, Begin}
use Rattle.plan.specs.Declines.{begin_with}
use Rattle.plan.proofs.Admitting.{first_room, later_room}
use Rattle.plan.proofs.Beginning.{begin_accepted, begin_holds}
use Rattle.plan.proofs.Fronting.{part_size, front_rest_at}
use Rattle.plan.proofs.plan.Plan.begin.Goals as goal

pub returns : goal.returns
returns g c =
    let m = g.G.Ground.meaning c.args.site.now in
    let lawful = g.G.Ground.lawful c.args.site.now in
    let n = c.places-n.result in
    let a = c.arcs-m.result in
    let places_same : n ≡ m.places = c.places-n.ensures in
    let arcs_same : a ≡ m.arcs = c.arcs-m.ensures in
    let costs = c.args.costs.now in
    let places = c.args.places.now in
    let queue = c.args.queue.now in
    let b : Begin = begin_with c.args.here c.args.landing c.args.slack in
    let d = c.in_ok-slack.ensures in
    let accepted : Accepted m b = record { here_within = omega (arith, places_same); landing_within = omega (arith, places_same); slack_low = d.0.0; slack_high = d.0.1 } in
    let two : Lent = (length places, m.places) ∷ (length queue, m.places) ∷ [] in
    let lent : Lent = (length costs, m.arcs) ∷ (length places, m.places) ∷ (length queue, m.places) ∷ [] in
    let short : is_short lent ≡ false =
    ap₂ (λ (k l : ℕ). is_short ((length costs, k) ∷ (length places, l) ∷ (length queue, l) ∷ [])) (sym arcs_same) (sym places_same) ∙ sym c.if-is_short.ensures in
    let costs_room : m.arcs ≤ length costs = first_room (length costs) m.arcs two short in
    let short_two : is_short two ≡ false = later_room (length costs) m.arcs two short in
    let places_room : m.places ≤ length places = first_room (length places) m.places ((length queue, m.places) ∷ []) short_two in
    let queue_room : m.places ≤ length queue = first_room (length queue) m.places [] (later_room (length places) m.places ((length queue, m.places) ∷ []) short_two) in
    let ys = c.cost_least.new.costs in
    let zs = c.open_landing.new.places in
    let part-costs = part_size a costs (omega (arith, arcs_same)) in
    let part-places = part_size n places (omega (arith, places_same)) in
    let sy : length ys ≡ a = omega (arith, part-costs, c.cost_least.auto.costs) in
    let sz : length zs ≡ n = omega (arith, part-places, c.open_landing.auto.places) in
    record {
      declined = sym (begin_accepted m b lent accepted short);
      kept = tt;
      beyond = record {
        costs_beyond = front_rest_at a costs ys sy m.arcs arcs_same;
        places_beyond = front_rest_at n places zs sz m.places places_same;
        queue_beyond = refl;
      };
      state = λ _. (
        refl,
        accepted,
        begin_holds m lawful b accepted c.in_ok-slack.slack d.1 a n arcs_same places_same costs places queue costs_room places_room queue_room ys zs sy sz (λ j h. c.cost_least.ensures j (omega (arith, part-costs, arcs_same))) (λ p h. c.open_landing.ensures p (omega (arith, part-places, places_same))),
      );
    }
