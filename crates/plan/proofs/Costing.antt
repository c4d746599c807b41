-- What Set writes into the tables. Assumes nothing.
use Rattle.std.proofs.Common.{◌≡◌, ℕ, ◌-◌, ◌<◌, ◌≤◌, cond, ◌&&◌, ◌||◌, eqb, ltb, leb, List, ◌++◌, length, get_or, take, drop, Some, None, Option, sym, refl, ap, ◌∙◌, ap₂, inl, inr, arith}
use borrow.Rule.Slice.PartMut.{post_of}
use Rattle.std.proofs.lemmas.List.{get_or-set_same, get_or-set_other}
use Rattle.std.proofs.lemmas.Bool.{true≢false, cases_eq, cases_lt, le-ltb, cond-true, cond-false, eq-eqb, ne_eqb}
use Rattle.terms.specs.declared.refusal.Refusal.{Refusal}
use Rattle.terms.specs.declared.refusal.Refusal.TheVariants.{NoSuchArc, CostOutside}
use Rattle.terms.specs.Amounts.{◌⊕◌}
use Rattle.ground.specs.Meanings.{Meaning, Lawful}
use Rattle.method.specs.Calls.{set_cost, outcome, unless, cost_set, set_refusal, standing, done, refuses}
use Rattle.method.specs.States.{State, put}
use Rattle.method.specs.Values.{rhs}
use Rattle.queue.specs.declared.entry.Entry.{Entry}
use Rattle.queue.specs.declared.key.Key.{Key}
use Rattle.search.specs.declared.aim.Aim.{Aim}
use Rattle.search.specs.declared.place.Place.{Place}
use Rattle.search.specs.Tables.{Cached, Shows, Sized, nowhere, place_at, told}
use Rattle.plan.specs.declared.header.Header.{Header}
use Rattle.plan.specs.Courses.{changed_to}
use Rattle.plan.specs.Layouts.{CostWritten}
use Rattle.plan.specs.Stands.{CarriesOut}
use Rattle.plan.proofs.Admitting.{BegunOn, standing_at}
use Rattle.plan.proofs.Altering.{comes_to, held_by, refused_outcome}
use Rattle.search.proofs.Agreeing.{rhs_agrees}
use Rattle.plan.proofs.Fronting.{rhs_agrees_at, SameFront, front_same, front_size, part_same, part_sized, same_cached, same_shows}

-- Set by whether it is refused
set_refused : (m : Meaning) (s : State) (j c : ℕ) (r : Refusal) → set_refusal m j c ≡ Some r → outcome m s (set_cost j c) ≡ refused_outcome s r
unfolding outcome
set_refused m s j c r e = ap (λ x. unless s x (record { after = cost_set m s j c; answer = done })) e

set_accepted : (m : Meaning) (s : State) (j c : ℕ) → set_refusal m j c ≡ None → outcome m s (set_cost j c) ≡ record { after = cost_set m s j c; answer = done }
unfolding outcome
set_accepted m s j c e = ap (λ x. unless s x (record { after = cost_set m s j c; answer = done })) e

pub set_declined : (m : Meaning) (o : Option Header) (costs : List ℕ) (places : List Place) (queue : List (Entry Key)) (j c : ℕ) (r : Refusal) → set_refusal m j c ≡ Some r → CarriesOut m (set_cost j c) (refuses r) (standing_at o costs places queue) (standing_at o costs places queue)
set_declined m o costs places queue j c r e s few held =
    comes_to m s (set_cost j c) (refuses r) (standing_at o costs places queue) (refused_outcome s r) (set_refused m s j c r e) refl held

-- a cost that is accepted is one of an arc
pub arc_there : (m : Meaning) (j c : ℕ) → set_refusal m j c ≡ None → j < m.arcs
arc_there m j c e = elim (cases_lt j m.arcs) [
  | inl l ↦ l
  | inr l ↦
      let past : set_refusal m j c ≡ Some NoSuchArc = cond-false (ltb j m.arcs) (cond (eqb c 0 || (leb (m.least j) c && leb c 10000)) None (Some CostOutside)) (Some NoSuchArc) (le-ltb j m.arcs l) in
      absurd (let z : ◌≡◌ {A = ℕ} 0 1 = cc in omega arith)
]

-- tables that fit the ground, after one arc was given this cost
module _ (m : Meaning) (lawful : Lawful m) (aim : Aim) (arc cost : ℕ) (costs : List ℕ) (places : List Place) (costs' : List ℕ) (places' : List Place) (sized : Sized m costs places) (there : arc < m.arcs) (written : CostWritten m aim arc cost costs places costs' places') where
  place_other : (p : ℕ) → (p ≡ m.tail arc → ⊥) → place_at places' p ≡ place_at places p
  place_other p d = ap (λ xs. place_at xs p) written.places_are ∙ get_or-set_other places (m.tail arc) p _ nowhere d

  place_tail : place_at places' (m.tail arc) ≡ record { g = (place_at places (m.tail arc)).g; rhs = rhs m (told aim costs' places) (m.tail arc); closed = (place_at places (m.tail arc)).closed }
  place_tail =
      let in' = lawful.tail_in arc there in
      ap (λ xs. place_at xs (m.tail arc)) written.places_are ∙ get_or-set_same places (m.tail arc) _ nowhere (omega (arith, sized.places_fit))

  value_kept : (p : ℕ) → (place_at places' p).g ≡ (place_at places p).g
  value_kept p = elim (cases_eq p (m.tail arc)) [
    | inl e ↦ ap (λ q. (place_at places' q).g) e ∙ ap (λ (x : Place). x.g) place_tail ∙ ap (λ q. (place_at places q).g) (sym e)
    | inr d ↦ ap (λ (x : Place). x.g) (place_other p d)
  ]

  closed_kept : (p : ℕ) → (place_at places' p).closed ≡ (place_at places p).closed
  closed_kept p = elim (cases_eq p (m.tail arc)) [
    | inl e ↦ ap (λ q. (place_at places' q).closed) e ∙ ap (λ (x : Place). x.closed) place_tail ∙ ap (λ q. (place_at places q).closed) (sym e)
    | inr d ↦ ap (λ (x : Place). x.closed) (place_other p d)
  ]

  cost_other : (j : ℕ) → (j ≡ arc → ⊥) → get_or costs' j 0 ≡ get_or costs j 0
  cost_other j d = ap (λ xs. get_or xs j 0) written.costs_are ∙ get_or-set_other costs arc j cost 0 d

  cost_here : get_or costs' arc 0 ≡ cost
  cost_here = ap (λ xs. get_or xs arc 0) written.costs_are ∙ get_or-set_same costs arc cost 0 (omega (arith, sized.costs_fit))

  written_cost : (s : State) (c : ℕ) → cost ≡ standing c → Shows m s aim costs places → (j : ℕ) → j < m.arcs → get_or costs' j 0 ≡ put s.cost arc (standing c) j
  written_cost s c is shows j h = elim (cases_eq j arc) [
    | inl e ↦ ap (λ i. get_or costs' i 0) e ∙ cost_here ∙ is ∙ sym (cond-true {A = ℕ} (eqb j arc) (standing c) (s.cost j) (eq-eqb j arc e))
    | inr d ↦ cost_other j d ∙ shows.costs_are j h ∙ sym (cond-false {A = ℕ} (eqb j arc) (standing c) (s.cost j) (ne_eqb j arc d))
  ]

  pub written_shows : (s : State) (c : ℕ) → cost ≡ standing c → Shows m s aim costs places → Shows m (cost_set m s arc c) aim costs' places'
  written_shows s c is shows = record {
    costs_are = written_cost s c is shows;
    values_are = λ p h. value_kept p ∙ shows.values_are p h;
    closed_are = λ p h. closed_kept p ∙ shows.closed_are p h;
    here_is = shows.here_is;
    landing_is = shows.landing_is;
    slack_is = shows.slack_is;
  }

  pub written_cached : Cached m aim costs places → Cached m aim costs' places'
  written_cached cached p h = elim (cases_eq p (m.tail arc)) [
    | inl e ↦
        let anew : rhs m (told aim costs' places') (m.tail arc) ≡ rhs m (told aim costs' places) (m.tail arc) =
        rhs_agrees m (told aim costs' places) (told aim costs' places') refl (λ j k. ap (λ v. get_or costs' j 0 ⊕ v) (value_kept (m.head j))) (m.tail arc) in
        ap (λ q. (place_at places' q).rhs) e ∙ ap (λ (x : Place). x.rhs) place_tail ∙ sym anew ∙ ap (rhs m (told aim costs' places')) (sym e)
    | inr d ↦
        let same : rhs m (told aim costs' places') p ≡ rhs m (told aim costs places) p =
        rhs_agrees_at m (told aim costs places) (told aim costs' places') refl p (λ j k from. ap₂ ◌⊕◌ (cost_other j (λ i. d (sym from ∙ ap m.tail i))) (value_kept (m.head j))) in
        ap (λ (x : Place). x.rhs) (place_other p d) ∙ cached p h ∙ sym same
  ]

-- the whole call: a plan on its own ground writes the cost into the fronts of its tables
module _ (m : Meaning) (lawful : Lawful m) (o : Option Header) (h : Header) (b : BegunOn o m h) (costs : List ℕ) (places : List Place) (costs_room : m.arcs ≤ length costs) (places_room : m.places ≤ length places) where
  pub set_done : (arc c cost : ℕ) → arc < m.arcs → set_refusal m arc c ≡ None → cost ≡ standing c → (ys : List ℕ) (zs : List Place) → length ys ≡ h.arcs → length zs ≡ h.places → CostWritten m h.aim arc cost (take (h.arcs - 0) (drop 0 costs)) (take (h.places - 0) (drop 0 places)) ys zs → (h' : Header) → h' ≡ changed_to h h.aim → (queue : List (Entry Key)) → CarriesOut m (set_cost arc c) done (standing_at o costs places queue) (standing_at (Some h') (ys ++ post_of 0 (h.arcs - 0) costs) (zs ++ post_of 0 (h.places - 0) places) queue)
  set_done arc c cost there free is ys zs sy sz written h' new queue s few held =
      let k = held_by m s h (standing_at o costs places queue) b.header held in
      let aim = h.aim in
      let costs₀ = take (h.arcs - 0) (drop 0 costs) in
      let places₀ = take (h.places - 0) (drop 0 places) in
      let costs₁ = ys ++ post_of 0 (h.arcs - 0) costs in
      let places₁ = zs ++ post_of 0 (h.places - 0) places in
      let sized : Sized m costs₀ places₀ = part_sized m h.arcs h.places costs places b.arcs_same b.places_same costs_room places_room in
      let part : SameFront m costs places costs₀ places₀ = part_same m h.arcs h.places costs places b.arcs_same b.places_same in
      let front : SameFront m ys zs costs₁ places₁ = front_same m h.arcs h.places costs places b.arcs_same b.places_same ys zs sy sz in
      let shows₀ = same_shows m aim costs places costs₀ places₀ part s k.shows in
      let shows₁ = written_shows m lawful aim arc cost costs₀ places₀ ys zs sized there written s c is shows₀ in
      let cached₀ = same_cached m lawful aim costs places costs₀ places₀ part k.cached in
      let cached₁ = written_cached m lawful aim arc cost costs₀ places₀ ys zs sized there written cached₀ in
      comes_to m s (set_cost arc c) done (standing_at (Some h') costs₁ places₁ queue) (record { after = cost_set m s arc c; answer = done }) (set_accepted m s arc c free) refl (
        changed_to h aim,
        record {
          begun = ap Some new;
          same_places = k.same_places;
          same_arcs = k.same_arcs;
          costs_room = omega (arith, b.arcs_same, front_size h.arcs costs ys sy (omega (arith, b.arcs_same)));
          places_room = omega (arith, b.places_same, front_size h.places places zs sz (omega (arith, b.places_same)));
          queue_room = k.queue_room;
          within = k.within;
          shows = same_shows m aim ys zs costs₁ places₁ front (cost_set m s arc c) shows₁;
          counted = k.counted;
          phase_is = refl;
          cached = same_cached m lawful aim ys zs costs₁ places₁ front cached₁;
          synced = λ e. absurd (true≢false e);
        },
      )
