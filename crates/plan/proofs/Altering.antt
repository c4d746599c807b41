-- What Set, Move and Stretch leave. Assumes nothing.
use Rattle.std.proofs.Common.{◌≡◌, ℕ, ◌<◌, ◌≤◌, false, ◌&&◌, ltb, leb, ◌⊎◌, List, Some, None, Option, sym, refl, ap, ◌∙◌, subst, inl, inr, arith}
use Rattle.std.proofs.lemmas.Bool.{true≢false, lt-ltb, le-ltb, le-leb, lt-leb, cond-true, cond-false, and_from, and_left, and_right, cases_lt}
use Rattle.terms.specs.declared.refusal.Refusal.{Refusal}
use Rattle.terms.specs.declared.refusal.Refusal.TheVariants.{NoSuchPlace, StretchOutside}
use Rattle.terms.specs.declared.slack.Slack.{Slack}
use Rattle.terms.specs.Slacks.{InRange}
use Rattle.ground.specs.Meanings.{Meaning}
use Rattle.method.specs.Calls.{Call, move_to, stretch_to, outcome, Outcome, unless, moved, stretched, stretch_refusal, done, refuses, Answer as Said}
use Rattle.method.specs.States.{State}
use Rattle.queue.specs.declared.entry.Entry.{Entry}
use Rattle.queue.specs.declared.key.Key.{Key}
use Rattle.search.specs.declared.aim.Aim.{Aim}
use Rattle.search.specs.declared.place.Place.{Place}
use Rattle.plan.specs.declared.header.Header.{Header}
use Rattle.plan.specs.Courses.{changed_to}
use Rattle.plan.specs.Declines.{no_such_place, move_declines, stretch_declines}
use Rattle.plan.specs.Stands.{Stand, HeldBy, Holds, CarriesOut}
use Rattle.plan.proofs.Admitting.{some_same, standing_at}
use Rattle.plan.proofs.Fronting.{rhs_aimed}

-- the state is held with the one header that the plan has
pub held_by : (m : Meaning) (s : State) (h : Header) (stand : Stand) → stand.header ≡ Some h → Holds m s stand → HeldBy m s h stand
held_by m s h stand is (x, held) = subst (λ (y : Header). HeldBy m s y stand) (some_same x h (sym held.begun ∙ is)) held

-- a call that comes to this
pub comes_to : (m : Meaning) (s : State) (call : Call) (said : Said) (after : Stand) (o : Outcome) → outcome m s call ≡ o → said ≡ o.answer → Holds m o.after after → (said ≡ (outcome m s call).answer) × Holds m (outcome m s call).after after
comes_to m s call said after o e a held = (a ∙ ap (λ (x : Outcome). x.answer) (sym e), subst (λ (x : Outcome). Holds m x.after after) (sym e) held)

abbrev pub refused_outcome : State → Refusal → Outcome
refused_outcome s r = record { after = s; answer = refuses r }

-- Move and Stretch by whether they are refused
move_refused : (m : Meaning) (s : State) (p : ℕ) → m.places ≤ p → outcome m s (move_to p) ≡ refused_outcome s NoSuchPlace
unfolding outcome
move_refused m s p h = ap (λ r. unless s r (record { after = moved m s p; answer = done })) (cond-false (ltb p m.places) None (Some NoSuchPlace) (le-ltb p m.places h))

move_accepted : (m : Meaning) (s : State) (p : ℕ) → p < m.places → outcome m s (move_to p) ≡ record { after = moved m s p; answer = done }
unfolding outcome
move_accepted m s p h = ap (λ r. unless s r (record { after = moved m s p; answer = done })) (cond-true (ltb p m.places) None (Some NoSuchPlace) (lt-ltb p m.places h))

pub stretch_outside : (m : Meaning) (e : ℕ) → (InRange e → ⊥) → stretch_refusal m e ≡ Some StretchOutside
stretch_outside m e outside = cond-false (leb 16 e && leb e 160) None (Some StretchOutside) (fails (cases_lt e 16) (cases_lt 160 e))
  where
    fails : (e < 16) ⊎ (16 ≤ e) → (160 < e) ⊎ (e ≤ 160) → (leb 16 e && leb e 160) ≡ false
    fails (inl low) high = and_left (leb 16 e) (leb e 160) (lt-leb 16 e low)
    fails (inr low) (inl high) = and_right (leb 16 e) (leb e 160) (lt-leb e 160 high)
    fails (inr low) (inr high) = absurd (outside (low, high))

pub stretch_within : (m : Meaning) (e : ℕ) → InRange e → stretch_refusal m e ≡ None
stretch_within m e (low, high) = cond-true (leb 16 e && leb e 160) None (Some StretchOutside) (and_from (leb 16 e) (leb e 160) (le-leb 16 e low) (le-leb e 160 high))

stretch_refused : (m : Meaning) (s : State) (e : ℕ) → (InRange e → ⊥) → outcome m s (stretch_to e) ≡ refused_outcome s StretchOutside
unfolding outcome
stretch_refused m s e outside = ap (λ r. unless s r (record { after = stretched m s e; answer = done })) (stretch_outside m e outside)

stretch_accepted : (m : Meaning) (s : State) (e : ℕ) → InRange e → outcome m s (stretch_to e) ≡ record { after = stretched m s e; answer = done }
unfolding outcome
stretch_accepted m s e in' = ap (λ r. unless s r (record { after = stretched m s e; answer = done })) (stretch_within m e in')

-- the plan has begun, with this header
module _ (o : Option Header) (h : Header) (is : o ≡ Some h) where
  pub move_declines_lem : (p : ℕ) → move_declines o p ≡ no_such_place h.places p
  move_declines_lem p = ap (λ x. move_declines x p) is

  pub stretch_declines_lem : (m : Meaning) (e : ℕ) → stretch_declines o m e ≡ stretch_refusal m e
  stretch_declines_lem m e = ap (λ x. stretch_declines x m e) is

  module _ (m : Meaning) (costs : List ℕ) (places : List Place) (queue : List (Entry Key)) where
    pub move_declined : (p : ℕ) → h.places ≤ p → CarriesOut m (move_to p) (refuses NoSuchPlace) (standing_at o costs places queue) (standing_at o costs places queue)
    move_declined p past s few held =
        let b = held_by m s h (standing_at o costs places queue) is held in
        comes_to m s (move_to p) (refuses NoSuchPlace) (standing_at o costs places queue) (refused_outcome s NoSuchPlace) (move_refused m s p (omega (arith, b.same_places))) refl held

    pub stretch_declined : (e : ℕ) → (InRange e → ⊥) → CarriesOut m (stretch_to e) (refuses StretchOutside) (standing_at o costs places queue) (standing_at o costs places queue)
    stretch_declined e outside s few held =
        comes_to m s (stretch_to e) (refuses StretchOutside) (standing_at o costs places queue) (refused_outcome s StretchOutside) (stretch_refused m s e outside) refl held

    pub move_done : (p : ℕ) → p < h.places → (h' : Header) → h' ≡ changed_to h (record { here = p; landing = h.aim.landing; slack = h.aim.slack }) → CarriesOut m (move_to p) done (standing_at o costs places queue) (standing_at (Some h') costs places queue)
    move_done p there h' new s few held =
        let b = held_by m s h (standing_at o costs places queue) is held in
        let aim : Aim = record { here = p; landing = h.aim.landing; slack = h.aim.slack } in
        let in' : p < m.places = omega (arith, b.same_places) in
        comes_to m s (move_to p) done (standing_at (Some h') costs places queue) (record { after = moved m s p; answer = done }) (move_accepted m s p in') refl (
          changed_to h aim,
          record {
            begun = ap Some new;
            same_places = b.same_places;
            same_arcs = b.same_arcs;
            costs_room = b.costs_room;
            places_room = b.places_room;
            queue_room = b.queue_room;
            within = record { here_within = in'; landing_within = b.within.landing_within };
            shows = record {
              costs_are = b.shows.costs_are;
              values_are = b.shows.values_are;
              closed_are = b.shows.closed_are;
              here_is = refl;
              landing_is = b.shows.landing_is;
              slack_is = b.shows.slack_is;
            };
            counted = b.counted;
            phase_is = refl;
            cached = λ q k. b.cached q k ∙ sym (rhs_aimed m h.aim aim costs places refl q);
            synced = λ e. absurd (true≢false e);
          },
        )

    pub stretch_done : (e : ℕ) → InRange e → (slack : Slack) → slack.sixteenths ≡ e → (h' : Header) → h' ≡ changed_to h (record { here = h.aim.here; landing = h.aim.landing; slack = slack }) → CarriesOut m (stretch_to e) done (standing_at o costs places queue) (standing_at (Some h') costs places queue)
    stretch_done e in' slack so h' new s few held =
        let b = held_by m s h (standing_at o costs places queue) is held in
        let aim : Aim = record { here = h.aim.here; landing = h.aim.landing; slack = slack } in
        comes_to m s (stretch_to e) done (standing_at (Some h') costs places queue) (record { after = stretched m s e; answer = done }) (stretch_accepted m s e in') refl (
          changed_to h aim,
          record {
            begun = ap Some new;
            same_places = b.same_places;
            same_arcs = b.same_arcs;
            costs_room = b.costs_room;
            places_room = b.places_room;
            queue_room = b.queue_room;
            within = record { here_within = b.within.here_within; landing_within = b.within.landing_within };
            shows = record {
              costs_are = b.shows.costs_are;
              values_are = b.shows.values_are;
              closed_are = b.shows.closed_are;
              here_is = b.shows.here_is;
              landing_is = b.shows.landing_is;
              slack_is = so;
            };
            counted = b.counted;
            phase_is = refl;
            cached = λ q k. b.cached q k ∙ sym (rhs_aimed m h.aim aim costs places refl q);
            synced = λ x. absurd (true≢false x);
          },
        )
