use Rattle.std.proofs.Common.{◌≡◌, ◌++◌, ◌-◌, true, false, length, take, drop, arith, Ok, Err, Option, sym, refl, ◌∙◌, subst, inl, inr}
use Rattle.std.proofs.lemmas.Result.{err_from_is_err_and}
use Rattle.terms.specs.declared.refusal.Refusal.{Refusal}
use Rattle.terms.specs.declared.refusal.Refusal.TheVariants.{ListShort, NoWay, NotSettled}
use Rattle.ground.specs.Meanings.{Lawful}
use Rattle.plan.specs.Asked.{RouteTurnedAway}
use Rattle.plan.specs.declared.answer.Answer.TheVariants.{Route}
use Rattle.plan.proofs.Admitting.{begun_on_is, standing_at}
use Rattle.plan.proofs.Altering.{held_by}
use borrow.Rule.Slice.PartMut.{post_of}
use Rattle.plan.proofs.Fronting.{front_is, front_rest_at, part_size}
use Rattle.plan.proofs.Routing.{no_route_course, route_course_lem, route_declines_lem, route_list_short, route_no_way, route_not_settled, route_told}
use Rattle.plan.proofs.plan.Plan.route.Goals as goal

pub returns-in_err-course_for : goal.returns-in_err-course_for
returns-in_err-course_for g c =
    let m = g.G.Ground.meaning c.args.site.now in
    let law : Lawful m = g.G.Ground.lawful c.args.site.now in
    let o = c.args.self.now.header in
    let h = c.in_ok-header.header in
    let costs = c.args.costs.now in
    let places = c.args.places.now in
    let entries = length c.args.list.now in
    let on = begun_on_is o m h c.in_ok-header.ensures in
    let long = sym c.if-is_short.ensures in
    let p = err_from_is_err_and c.from_residual-in_err-course_for.result c.from_residual-in_err-course_for.ensures.1 in
    let no = no_route_course h.phase c.in_err-course_for.field-0.0 c.in_err-course_for.ensures in
    rw (p.1, p.2, no.1) record {
      declined = subst (λ (r : Option Refusal). RouteTurnedAway r (Err NotSettled)) (sym (route_declines_lem m o h on (length costs) (length places) long entries false no.0)) refl;
      kept = refl;
      state = λ queue s few held. route_not_settled m law s h o costs places queue (held_by m s h (standing_at o costs places queue) on.header held) entries no.0;
    }

pub returns-then-is_far : goal.returns-then-is_far
returns-then-is_far g c =
    let m = g.G.Ground.meaning c.args.site.now in
    let law : Lawful m = g.G.Ground.lawful c.args.site.now in
    let o = c.args.self.now.header in
    let h = c.in_ok-header.header in
    let costs = c.args.costs.now in
    let places = c.args.places.now in
    let entries = length c.args.list.now in
    let on = begun_on_is o m h c.in_ok-header.ensures in
    let long = sym c.if-is_short.ensures in
    let settled = route_course_lem h.phase c.in_ok-course_for.field-0 c.in_ok-course_for.ensures in
    record {
      declined = subst (λ (r : Option Refusal). RouteTurnedAway r (Err NoWay)) (sym (route_declines_lem m o h on (length costs) (length places) long entries true settled)) (inl refl);
      kept = refl;
      state = λ queue s few held. route_no_way m law s h o costs places queue (held_by m s h (standing_at o costs places queue) on.header held) entries settled (sym c.if-is_far.ensures);
    }

pub returns-then-arcs-list : goal.returns-then-arcs-list
returns-then-arcs-list g c =
    let m = g.G.Ground.meaning c.args.site.now in
    let law : Lawful m = g.G.Ground.lawful c.args.site.now in
    let o = c.args.self.now.header in
    let h = c.in_ok-header.header in
    let costs = c.args.costs.now in
    let places = c.args.places.now in
    let entries = length c.args.list.now in
    let on = begun_on_is o m h c.in_ok-header.ensures in
    let long = sym c.if-is_short.ensures in
    let settled = route_course_lem h.phase c.in_ok-course_for.field-0 c.in_ok-course_for.ensures in
    record {
      declined = subst (λ (r : Option Refusal). RouteTurnedAway r (Err ListShort)) (sym (route_declines_lem m o h on (length costs) (length places) long entries true settled)) (inr refl);
      kept = refl;
      state = λ queue s few held. route_list_short m law s h o costs places queue (held_by m s h (standing_at o costs places queue) on.header held) entries settled (sym c.is_far.ensures ∙ c.if-is_far.false) c.count_arcs-arcs.result c.count_arcs-arcs.ensures c.if-arcs-list.true;
    }

pub returns : goal.returns
returns g c =
    let m = g.G.Ground.meaning c.args.site.now in
    let law : Lawful m = g.G.Ground.lawful c.args.site.now in
    let o = c.args.self.now.header in
    let h = c.in_ok-header.header in
    let costs = c.args.costs.now in
    let places = c.args.places.now in
    let entries = length c.args.list.now in
    let on = begun_on_is o m h c.in_ok-header.ensures in
    let long = sym c.if-is_short.ensures in
    let settled = route_course_lem h.phase c.in_ok-course_for.field-0 c.in_ok-course_for.ensures in
    let n = c.count_arcs-arcs.result in
    let list = c.args.list.now in
    let ys = c.write_arcs-sum.new.list in
    let there : length (take (n - 0) (drop 0 list)) ≡ n = part_size n list (omega (arith, c.if-arcs-list.false)) in
    let size : length ys ≡ n = omega (arith, there, c.write_arcs-sum.auto.list) in
    record {
      declined = subst (λ (r : Option Refusal). RouteTurnedAway r (Ok (Route c.count_arcs-arcs.result c.write_arcs-sum.result))) (sym (route_declines_lem m o h on (length costs) (length places) long entries true settled)) tt;
      kept = front_rest_at n list ys size n refl;
      state = λ queue s few held. route_told m law s h o costs places queue (held_by m s h (standing_at o costs places queue) on.header held) entries settled (sym c.is_far.ensures ∙ c.if-is_far.false) c.count_arcs-arcs.result c.count_arcs-arcs.ensures c.if-arcs-list.false (take n (ys ++ post_of 0 (n - 0) list)) c.write_arcs-sum.result (front_is n list ys size ∙ c.write_arcs-sum.ensures.listed (there ∙ c.count_arcs-arcs.ensures)) (c.write_arcs-sum.ensures.summed (there ∙ c.count_arcs-arcs.ensures));
    }
