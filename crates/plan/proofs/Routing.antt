-- What Route answers. Assumes nothing.
use Rattle.std.proofs.Common.{◌≡◌, ℕ, ◌-◌, ◌<◌, ◌≤◌, Bool, true, false, cond, ◌&&◌, eqb, List, [], ◌∷◌, length, get_or, take, drop, Some, None, Ok, Err, Option, Result, sym, refl, ap, ◌∙◌, subst, arith}
use Rattle.std.proofs.lemmas.Bool.{cond-true, cond-false, le-leb, lt-leb, lt-ltb}
use Rattle.terms.specs.Amounts.{far}
use Rattle.terms.specs.declared.refusal.Refusal.{Refusal}
use Rattle.terms.specs.declared.refusal.Refusal.TheVariants.{ListShort, NoWay, NotSettled}
use Rattle.ground.specs.Meanings.{Meaning, Lawful}
use Rattle.method.specs.Calls.{capped_sum, follow, outcome, refuses, route_into, route_of, route_refusal, routes}
use Rattle.method.specs.Handed.{is_short}
use Rattle.method.specs.States.{State, is_settled}
use Rattle.plan.specs.declared.phase.Phase.{Phase}
use Rattle.plan.specs.declared.phase.Phase.TheVariants.{Changed, UnderWay, Settled}
use Rattle.queue.specs.declared.entry.Entry.{Entry}
use Rattle.queue.specs.declared.key.Key.{Key}
use Rattle.search.specs.Tables.{Shows, place_at, told}
use Rattle.search.specs.declared.place.Place.{Place}
use Rattle.plan.specs.Courses.{course_of}
use Rattle.plan.specs.Declines.{not_settled, or_else, route_declines}
use Rattle.plan.specs.Routes.{far_at, route_in}
use Rattle.plan.specs.Stands.{HeldBy, Holds}
use Rattle.plan.specs.Phases.{stage_of}
use Rattle.plan.specs.declared.course.Course.{Course}
use Rattle.plan.specs.declared.course.Kind.TheVariants.{Route}
use Rattle.plan.specs.declared.header.Header.{Header}
use Rattle.plan.proofs.Admitting.{BegunOn, not_turned_away, standing_at, unless_accepts, unless_refuses}
use Rattle.plan.proofs.Asking.{capped_same, follow_in, follow_same}
use Rattle.plan.proofs.Fronting.{part_same, part_size, same_shows}

-- a route can be had only of a settled plan
pub route_course_lem : (phase : Phase) (c : Course) → ◌≡◌ {A = Result Course Refusal} (Ok c) (course_of phase Route) → is_settled (stage_of phase) ≡ true
route_course_lem Changed c e = absurd (let z : ◌≡◌ {A = ℕ} 0 1 = cc in omega arith)
route_course_lem UnderWay c e = absurd (let z : ◌≡◌ {A = ℕ} 0 1 = cc in omega arith)
route_course_lem Settled c e = refl

pub no_route_course : (phase : Phase) (r : Refusal) → ◌≡◌ {A = Result Course Refusal} (Err r) (course_of phase Route) → (is_settled (stage_of phase) ≡ false) × (r ≡ NotSettled)
no_route_course Changed r e = let same : r ≡ NotSettled = cc in (refl, same)
no_route_course UnderWay r e = let same : r ≡ NotSettled = cc in (refl, same)
no_route_course Settled r e = absurd (let z : ◌≡◌ {A = ℕ} 0 1 = cc in omega arith)

module _ (m : Meaning) (o : Option Header) (h : Header) (on : BegunOn o m h) (costs places : ℕ) (long : is_short ((costs, h.arcs) ∷ (places, h.places) ∷ []) ≡ false) where
  lent_is : is_short ((costs, m.arcs) ∷ (places, m.places) ∷ []) ≡ false
  lent_is = sym (λ i. is_short ((costs, on.arcs_same i) ∷ (places, on.places_same i) ∷ [])) ∙ long

  pub route_declines_lem : (list : ℕ) (b : Bool) → is_settled (stage_of h.phase) ≡ b → route_declines o m list costs places ≡ cond b None (Some NotSettled)
  route_declines_lem list b e =
      ap (λ r. or_else r (not_settled o)) (not_turned_away o m h on _ lent_is (route_into list)) ∙ ap not_settled on.header ∙ ap (λ x. cond x None (Some NotSettled)) e

module _ (m : Meaning) (law : Lawful m) (s : State) (h : Header) (o : Option Header) (costs : List ℕ) (places : List Place) (queue : List (Entry Key)) (held : HeldBy m s h (standing_at o costs places queue)) (entries : ℕ) where
  settled_is : is_settled s.phase ≡ is_settled (stage_of h.phase)
  settled_is = ap is_settled (sym held.phase_is)

  shown : Shows m s h.aim (take (h.arcs - 0) (drop 0 costs)) (take (h.places - 0) (drop 0 places))
  shown = same_shows m h.aim costs places _ _ (part_same m h.arcs h.places costs places held.same_arcs held.same_places) s held.shows

  -- the route that the tables tell is the state's
  route_is : route_in m h.aim (take (h.arcs - 0) (drop 0 costs)) (take (h.places - 0) (drop 0 places)) ≡ route_of m s
  route_is =
      ap (follow m (told h.aim (take (h.arcs - 0) (drop 0 costs)) (take (h.places - 0) (drop 0 places))) m.places) shown.here_is
      ∙ follow_same m law s (told h.aim (take (h.arcs - 0) (drop 0 costs)) (take (h.places - 0) (drop 0 places))) shown.landing_is shown.costs_are shown.values_are m.places s.here

  sum_is : capped_sum (λ j. get_or (take (h.arcs - 0) (drop 0 costs)) j 0) (route_in m h.aim (take (h.arcs - 0) (drop 0 costs)) (take (h.places - 0) (drop 0 places))) ≡ capped_sum s.cost (route_of m s)
  sum_is =
      ap (capped_sum (λ j. get_or (take (h.arcs - 0) (drop 0 costs)) j 0)) route_is
      ∙ capped_same (λ j. get_or (take (h.arcs - 0) (drop 0 costs)) j 0) s.cost m.arcs shown.costs_are (route_of m s) (follow_in m s m.places s.here)

  -- here's value, as the front of the places tells it
  far_is : far_at (take (h.places - 0) (drop 0 places)) h.aim.here ≡ eqb (s.g s.here) far
  far_is =
      let size = part_size h.places places (omega (arith, held.places_room, held.same_places)) in
      ap (λ b. b && eqb (place_at (take (h.places - 0) (drop 0 places)) h.aim.here).g far) (lt-ltb _ _ (omega (arith, held.within.here_within, held.same_places, size)))
      ∙ ap (λ v. eqb v far) (shown.values_are h.aim.here held.within.here_within ∙ ap s.g shown.here_is)

  Refuses : Refusal → Type 0
  Refuses r = (refuses r ≡ (outcome m s (route_into entries)).answer) × Holds m (outcome m s (route_into entries)).after (standing_at o costs places queue)

  refused_as : (r : Refusal) → route_refusal m s entries ≡ Some r → Refuses r
  unfolding outcome Refuses
  refused_as r e =
      let u = unless_refuses s (route_refusal m s entries) (record { after = s; answer = routes (route_of m s) (capped_sum s.cost (route_of m s)) }) r e in
      (u.0, subst (λ t. Holds m t (standing_at o costs places queue)) (sym u.1) (h, held))

  pub route_not_settled : is_settled (stage_of h.phase) ≡ false → (refuses NotSettled ≡ (outcome m s (route_into entries)).answer) × Holds m (outcome m s (route_into entries)).after (standing_at o costs places queue)
  unfolding Refuses
  route_not_settled e = refused_as NotSettled (cond-false _ _ _ (settled_is ∙ e))

  module _ (settled : is_settled (stage_of h.phase) ≡ true) where
    pub route_no_way : far_at (take (h.places - 0) (drop 0 places)) h.aim.here ≡ true → (refuses NoWay ≡ (outcome m s (route_into entries)).answer) × Holds m (outcome m s (route_into entries)).after (standing_at o costs places queue)
    unfolding Refuses
    route_no_way e = refused_as NoWay (cond-true _ _ _ (settled_is ∙ settled) ∙ cond-true _ _ _ (sym far_is ∙ e))

    module _ (near : far_at (take (h.places - 0) (drop 0 places)) h.aim.here ≡ false) (count : ℕ) (counted : count ≡ length (route_in m h.aim (take (h.arcs - 0) (drop 0 costs)) (take (h.places - 0) (drop 0 places)))) where
      length_is : count ≡ length (route_of m s)
      length_is = counted ∙ ap length route_is

      pub route_list_short : entries < count → (refuses ListShort ≡ (outcome m s (route_into entries)).answer) × Holds m (outcome m s (route_into entries)).after (standing_at o costs places queue)
      unfolding Refuses
      route_list_short l =
          refused_as ListShort (cond-true _ _ _ (settled_is ∙ settled) ∙ cond-false _ _ _ (sym far_is ∙ near) ∙ cond-false _ _ _ (lt-leb (length (route_of m s)) entries (omega (arith, l, length_is))))

      pub route_told : count ≤ entries → (front : List ℕ) (sum : ℕ) → front ≡ route_in m h.aim (take (h.arcs - 0) (drop 0 costs)) (take (h.places - 0) (drop 0 places)) → sum ≡ capped_sum (λ j. get_or (take (h.arcs - 0) (drop 0 costs)) j 0) (route_in m h.aim (take (h.arcs - 0) (drop 0 costs)) (take (h.places - 0) (drop 0 places))) → (routes front sum ≡ (outcome m s (route_into entries)).answer) × Holds m (outcome m s (route_into entries)).after (standing_at o costs places queue)
      unfolding outcome
      route_told l front sum is adds =
          let none : route_refusal m s entries ≡ None = cond-true _ _ _ (settled_is ∙ settled) ∙ cond-false _ _ _ (sym far_is ∙ near) ∙ cond-true _ _ _ (le-leb (length (route_of m s)) entries (omega (arith, l, length_is))) in
          let u = unless_accepts s (route_refusal m s entries) (record { after = s; answer = routes (route_of m s) (capped_sum s.cost (route_of m s)) }) none in
          let first : front ≡ route_of m s = is ∙ route_is in
          let second : sum ≡ capped_sum s.cost (route_of m s) = adds ∙ sum_is in
          ((λ i. routes (first i) (second i)) ∙ u.0, subst (λ t. Holds m t (standing_at o costs places queue)) (sym u.1) (h, held))
