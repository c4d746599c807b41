-- What Begin leaves. Assumes nothing.
use Rattle.std.proofs.Common.{◌≡◌, ℕ, ◌-◌, ◌<◌, ◌≤◌, false, cond, ◌&&◌, eqb, ltb, leb, List, ◌++◌, length, get_or, Some, None, sym, refl, ap, ◌∙◌, inl, inr, arith}
use borrow.Rule.Slice.PartMut.{post_of}
use Rattle.std.proofs.lemmas.Bool.{true≢false, cases_eq, cases_lt, lt-ltb, le-leb, cond-true, cond-false, and_from, eq-eqb, ne_eqb}
use Rattle.terms.specs.declared.refusal.Refusal.TheVariants.{NoSuchPlace, StretchOutside, TableShort}
use Rattle.terms.specs.declared.slack.Slack.{Slack}
use Rattle.terms.specs.Amounts.{far, ◌⊕◌}
use Rattle.ground.specs.Meanings.{Meaning, Lawful}
use Rattle.method.proofs.Offers.{rhs_far, rhs_landing, Offered, rhs_from}
use Rattle.method.specs.Handed.{Lent, is_short, begin_refusal}
use Rattle.method.specs.Pasts.{Begin, Accepted, begun}
use Rattle.method.specs.Values.{rhs}
use Rattle.plan.specs.declared.phase.Phase.TheVariants.{Changed}
use Rattle.queue.specs.declared.entry.Entry.{Entry}
use Rattle.queue.specs.declared.key.Key.{Key}
use Rattle.search.specs.declared.aim.Aim.{Aim}
use Rattle.search.specs.declared.place.Place.{Place}
use Rattle.search.specs.Tables.{Cached, Shows, place_at, told}
use Rattle.plan.specs.Layouts.{fresh_place}
use Rattle.plan.specs.Stands.{Holds}
use Rattle.plan.proofs.Admitting.{standing_at}
use Rattle.plan.proofs.Fronting.{SameFront, front_same, front_size, same_cached, same_shows}

-- a Begin that is accepted, with tables that have room
pub begin_accepted : (m : Meaning) (b : Begin) (lent : Lent) → Accepted m b → is_short lent ≡ false → begin_refusal m b lent ≡ None
begin_accepted m b lent a room =
    cond-true (ltb b.here m.places && ltb b.landing m.places) (cond (leb 16 b.slack && leb b.slack 160) (cond (is_short lent) (Some TableShort) None) (Some StretchOutside)) (Some NoSuchPlace) (and_from (ltb b.here m.places) (ltb b.landing m.places) (lt-ltb _ _ a.here_within) (lt-ltb _ _ a.landing_within))
    ∙ cond-true (leb 16 b.slack && leb b.slack 160) (cond (is_short lent) (Some TableShort) None) (Some StretchOutside) (and_from (leb 16 b.slack) (leb b.slack 160) (le-leb _ _ a.slack_low) (le-leb _ _ a.slack_high))
    ∙ cond-false (is_short lent) (Some TableShort) None room

-- tables where each arc costs its least and no place has a value yet
module _ (m : Meaning) (lawful : Lawful m) (b : Begin) (aim : Aim) (costs : List ℕ) (places : List Place) (least : (j : ℕ) → j < m.arcs → get_or costs j 0 ≡ m.least j) (fresh : (p : ℕ) → p < m.places → place_at places p ≡ fresh_place aim.landing p) where
  fresh_shows : aim.here ≡ b.here → aim.landing ≡ b.landing → aim.slack.sixteenths ≡ b.slack → Shows m (begun m b) aim costs places
  fresh_shows here landing slack = record {
    costs_are = least;
    values_are = λ p h. ap (λ (x : Place). x.g) (fresh p h);
    closed_are = λ p h. ap (λ (x : Place). x.closed) (fresh p h);
    here_is = here;
    landing_is = landing;
    slack_is = slack;
  }

  -- no arc offers anything while no place has a value
  fresh_rhs : (p : ℕ) → (p ≡ aim.landing → ⊥) → rhs m (told aim costs places) p ≡ far
  fresh_rhs p d = elim (cases_lt (rhs m (told aim costs places) p) far) [
    | inl low ↦ never (rhs_from m (told aim costs places) p d low) low
    | inr high ↦ omega (arith, rhs_far m (told aim costs places) p)
  ]
    where
      never : Offered m (told aim costs places) p → rhs m (told aim costs places) p < far → rhs m (told aim costs places) p ≡ far
      never o low =
          let v : (place_at places (m.head o.arc)).g ≡ far = ap (λ (x : Place). x.g) (fresh (m.head o.arc) (lawful.head_in o.arc o.arc_within)) in
          let is : rhs m (told aim costs places) p ≡ get_or costs o.arc 0 ⊕ (place_at places (m.head o.arc)).g = o.is in
          omega arith

  fresh_cached : Cached m aim costs places
  fresh_cached p h = elim (cases_eq p aim.landing) [
    | inl e ↦ ap (λ (x : Place). x.rhs) (fresh p h) ∙ cond-true {A = ℕ} (eqb p aim.landing) 0 far (eq-eqb _ _ e) ∙ sym (ap (rhs m (told aim costs places)) e ∙ rhs_landing m (told aim costs places))
    | inr d ↦ ap (λ (x : Place). x.rhs) (fresh p h) ∙ cond-false {A = ℕ} (eqb p aim.landing) 0 far (ne_eqb _ _ d) ∙ sym (fresh_rhs p d)
  ]

-- the whole call: the fronts of the tables are written anew
module _ (m : Meaning) (lawful : Lawful m) (b : Begin) (accepted : Accepted m b) (slack : Slack) (so : slack.sixteenths ≡ b.slack) (a n : ℕ) (arcs_same : a ≡ m.arcs) (places_same : n ≡ m.places) (costs : List ℕ) (places : List Place) (queue : List (Entry Key)) (costs_room : m.arcs ≤ length costs) (places_room : m.places ≤ length places) (queue_room : m.places ≤ length queue) where
  pub begin_holds : (ys : List ℕ) (zs : List Place) → length ys ≡ a → length zs ≡ n → ((j : ℕ) → j < m.arcs → get_or ys j 0 ≡ m.least j) → ((p : ℕ) → p < m.places → place_at zs p ≡ fresh_place b.landing p) → Holds m (begun m b) (standing_at (Some (record { places = n; arcs = a; aim = record { here = b.here; landing = b.landing; slack = slack }; count = 0; phase = Changed })) (ys ++ post_of 0 (a - 0) costs) (zs ++ post_of 0 (n - 0) places) queue)
  begin_holds ys zs sy sz least fresh =
      let aim : Aim = record { here = b.here; landing = b.landing; slack = slack } in
      let costs₁ = ys ++ post_of 0 (a - 0) costs in
      let places₁ = zs ++ post_of 0 (n - 0) places in
      let front : SameFront m ys zs costs₁ places₁ = front_same m a n costs places arcs_same places_same ys zs sy sz in (
        record { places = n; arcs = a; aim = aim; count = 0; phase = Changed },
        record {
          begun = refl;
          same_places = places_same;
          same_arcs = arcs_same;
          costs_room = omega (arith, arcs_same, front_size a costs ys sy (omega arith));
          places_room = omega (arith, places_same, front_size n places zs sz (omega arith));
          queue_room = queue_room;
          within = record { here_within = accepted.here_within; landing_within = accepted.landing_within };
          shows = same_shows m aim ys zs costs₁ places₁ front (begun m b) (fresh_shows m lawful b aim ys zs least fresh refl refl so);
          counted = refl;
          phase_is = refl;
          cached = same_cached m lawful aim ys zs costs₁ places₁ front (fresh_cached m lawful b aim ys zs least fresh);
          synced = λ e. absurd (true≢false e);
        },
      )
