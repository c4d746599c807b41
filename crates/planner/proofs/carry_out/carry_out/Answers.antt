-- Each call is the plan's own, and what the plan ensures of it is what is promised here.
use Rattle.std.proofs.Common.{[], length, sym, refl, subst}
use Rattle.method.specs.Calls.{set_cost, move_to, stretch_to, search_for, route_into, sum_over}
use Rattle.plan.specs.Answers.{heard}
use Rattle.plan.specs.Stands.{CarriesOut, Stand, stand_of}
use Rattle.planner.proofs.Carrying.{begins, Carried, carried_as, keeps, keeps_declined, over, turns_away, unless_same}
use Rattle.terms.specs.declared.call.Call.TheVariants.{Begin, Set, Move, Stretch, Search, Route, Sum}
use Rattle.planner.proofs.carry_out.carry_out.Goals as goal

pub returns-in-Begin : goal.returns-in-Begin
returns-in-Begin g c =
    let m = g.G.Ground.meaning c.args.site.now in
    let lawful = g.G.Ground.lawful c.args.site.now in
    let r = c.begin.result in
    let before : Stand = stand_of c.args.plan.now c.args.costs.now c.args.places.now c.args.queue.now in
    let after : Stand = stand_of c.begin.new.self c.begin.new.costs c.begin.new.places c.begin.new.queue in
    let here : Carried m (Begin c.in-Begin.here c.in-Begin.landing c.in-Begin.slack) before c.args.list.now r after c.args.list.now = record {
      declined = c.begin.ensures.declined;
      kept = c.begin.ensures.kept;
      listed = refl;
      beyond = c.begin.ensures.beyond;
      began = begins m c.in-Begin.here c.in-Begin.landing c.in-Begin.slack r after c.begin.ensures.state;
      law = keeps_declined m lawful r before after c.begin.ensures.kept;
    } in
    let made = carried_as c.in-Begin.is here in
    record { declined = made.declined; kept = made.kept; listed = made.listed; beyond = made.beyond; began = made.began; law = made.law; away = turns_away r before after made.kept }

pub returns-in-Set : goal.returns-in-Set
returns-in-Set g c =
    let m = g.G.Ground.meaning c.args.site.now in
    let lawful = g.G.Ground.lawful c.args.site.now in
    let r = c.set.result in
    let before : Stand = stand_of c.args.plan.now c.args.costs.now c.args.places.now c.args.queue.now in
    let after : Stand = stand_of c.set.new.self c.set.new.costs c.set.new.places c.args.queue.now in
    let here : Carried m (Set c.in-Set.arc c.in-Set.cost) before c.args.list.now r after c.args.list.now = record {
      declined = c.set.ensures.declined;
      kept = over (λ s. record { header = s.header; costs = s.costs; places = s.places; queue = c.args.queue.now }) r (stand_of c.args.plan.now c.args.costs.now c.args.places.now []) (stand_of c.set.new.self c.set.new.costs c.set.new.places []) c.set.ensures.kept;
      listed = refl;
      beyond = record { costs_beyond = c.set.ensures.beyond.costs_beyond; places_beyond = c.set.ensures.beyond.places_beyond; queue_beyond = refl };
      began = tt;
      law = keeps m lawful (set_cost c.in-Set.arc c.in-Set.cost) (heard r []) before after (c.set.ensures.state c.args.queue.now);
    } in
    let made = carried_as c.in-Set.is here in
    record { declined = made.declined; kept = made.kept; listed = made.listed; beyond = made.beyond; began = made.began; law = made.law; away = turns_away r before after made.kept }

pub returns-in-Move : goal.returns-in-Move
returns-in-Move g c =
    let m = g.G.Ground.meaning c.args.site.now in
    let lawful = g.G.Ground.lawful c.args.site.now in
    let r = c.move_to.result in
    let before : Stand = stand_of c.args.plan.now c.args.costs.now c.args.places.now c.args.queue.now in
    let after : Stand = stand_of c.move_to.new.self c.args.costs.now c.args.places.now c.args.queue.now in
    let here : Carried m (Move c.in-Move.place) before c.args.list.now r after c.args.list.now = record {
      declined = c.move_to.ensures.declined;
      kept = over (λ s. record { header = s.header; costs = c.args.costs.now; places = c.args.places.now; queue = c.args.queue.now }) r (stand_of c.args.plan.now [] [] []) (stand_of c.move_to.new.self [] [] []) c.move_to.ensures.kept;
      listed = refl;
      beyond = record { costs_beyond = refl; places_beyond = refl; queue_beyond = refl };
      began = tt;
      law = keeps m lawful (move_to c.in-Move.place) (heard r []) before after (c.move_to.ensures.state m c.args.costs.now c.args.places.now c.args.queue.now);
    } in
    let made = carried_as c.in-Move.is here in
    record { declined = made.declined; kept = made.kept; listed = made.listed; beyond = made.beyond; began = made.began; law = made.law; away = turns_away r before after made.kept }

pub returns-in-Stretch : goal.returns-in-Stretch
returns-in-Stretch g c =
    let m = g.G.Ground.meaning c.args.site.now in
    let lawful = g.G.Ground.lawful c.args.site.now in
    let r = c.stretch_to.result in
    let before : Stand = stand_of c.args.plan.now c.args.costs.now c.args.places.now c.args.queue.now in
    let after : Stand = stand_of c.stretch_to.new.self c.args.costs.now c.args.places.now c.args.queue.now in
    let here : Carried m (Stretch c.in-Stretch.slack) before c.args.list.now r after c.args.list.now = record {
      declined = c.stretch_to.ensures.declined m;
      kept = over (λ s. record { header = s.header; costs = c.args.costs.now; places = c.args.places.now; queue = c.args.queue.now }) r (stand_of c.args.plan.now [] [] []) (stand_of c.stretch_to.new.self [] [] []) c.stretch_to.ensures.kept;
      listed = refl;
      beyond = record { costs_beyond = refl; places_beyond = refl; queue_beyond = refl };
      began = tt;
      law = keeps m lawful (stretch_to c.in-Stretch.slack) (heard r []) before after (c.stretch_to.ensures.state m c.args.costs.now c.args.places.now c.args.queue.now);
    } in
    let made = carried_as c.in-Stretch.is here in
    record { declined = made.declined; kept = made.kept; listed = made.listed; beyond = made.beyond; began = made.began; law = made.law; away = turns_away r before after made.kept }

pub returns-in-Search : goal.returns-in-Search
returns-in-Search g c =
    let m = g.G.Ground.meaning c.args.site.now in
    let lawful = g.G.Ground.lawful c.args.site.now in
    let r = c.search.result in
    let before : Stand = stand_of c.args.plan.now c.args.costs.now c.args.places.now c.args.queue.now in
    let after : Stand = stand_of c.search.new.self c.args.costs.now c.search.new.places c.search.new.queue in
    let here : Carried m (Search c.in-Search.turns) before c.args.list.now r after c.args.list.now = record {
      declined = c.search.ensures.declined;
      kept = c.search.ensures.kept;
      listed = refl;
      beyond = c.search.ensures.beyond;
      began = tt;
      law = keeps m lawful (search_for c.in-Search.turns) (heard r []) before after c.search.ensures.state;
    } in
    let made = carried_as c.in-Search.is here in
    record { declined = made.declined; kept = made.kept; listed = made.listed; beyond = made.beyond; began = made.began; law = made.law; away = turns_away r before after made.kept }

pub returns-in-Route : goal.returns-in-Route
returns-in-Route g c =
    let m = g.G.Ground.meaning c.args.site.now in
    let lawful = g.G.Ground.lawful c.args.site.now in
    let r = c.route.result in
    let before : Stand = stand_of c.args.plan.now c.args.costs.now c.args.places.now c.args.queue.now in
    let after : Stand = stand_of c.args.plan.now c.args.costs.now c.args.places.now c.args.queue.now in
    let here : Carried m Route before c.args.list.now r after c.route.new.list = record {
      declined = c.route.ensures.declined;
      kept = unless_same r before;
      listed = c.route.ensures.kept;
      beyond = record { costs_beyond = refl; places_beyond = refl; queue_beyond = refl };
      began = tt;
      law = keeps m lawful (route_into (length c.route.new.list)) (heard r c.route.new.list) before after (subst (λ n. CarriesOut m (route_into n) (heard r c.route.new.list) before after) (sym c.route.auto.list) (c.route.ensures.state c.args.queue.now));
    } in
    let made = carried_as c.in-Route.is here in
    record { declined = made.declined; kept = made.kept; listed = made.listed; beyond = made.beyond; began = made.began; law = made.law; away = turns_away r before after made.kept }

pub returns-in-Sum : goal.returns-in-Sum
returns-in-Sum g c =
    let m = g.G.Ground.meaning c.args.site.now in
    let lawful = g.G.Ground.lawful c.args.site.now in
    let r = c.sum.result in
    let before : Stand = stand_of c.args.plan.now c.args.costs.now c.args.places.now c.args.queue.now in
    let after : Stand = stand_of c.args.plan.now c.args.costs.now c.args.places.now c.args.queue.now in
    let here : Carried m (Sum c.in-Sum.arcs) before c.args.list.now r after c.args.list.now = record {
      declined = c.sum.ensures.declined;
      kept = unless_same r before;
      listed = refl;
      beyond = record { costs_beyond = refl; places_beyond = refl; queue_beyond = refl };
      began = tt;
      law = keeps m lawful (sum_over c.in-Sum.arcs.now) (heard r []) before after (c.sum.ensures.state m c.args.places.now c.args.queue.now);
    } in
    let made = carried_as c.in-Sum.is here in
    record { declined = made.declined; kept = made.kept; listed = made.listed; beyond = made.beyond; began = made.began; law = made.law; away = turns_away r before after made.kept }
