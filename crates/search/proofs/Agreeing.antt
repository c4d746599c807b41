-- The rhs of two states, by what their arcs offer. Assumes nothing.
use Rattle.std.proofs.Common.{◌≡◌, ℕ, ◌<◌, ◌≤◌, List, sym, ap, ◌∙◌, ap₂, inl, inr, arith}
use Rattle.ground.specs.Meanings.{Meaning, Lawful}
use Rattle.method.proofs.Offers.{rhs_far, rhs_landing, rhs_offer, Offered, rhs_from}
use Rattle.method.specs.States.{State}
use Rattle.method.specs.Values.{offer, rhs}
use Rattle.std.proofs.lemmas.Bool.{cases_eq, cases_lt}
use Rattle.terms.specs.Amounts.{far, ◌⊕◌}
use Rattle.search.specs.declared.aim.Aim.{Aim}
use Rattle.search.specs.declared.place.Place.{Place}
use Rattle.search.specs.Tables.{Shows, told}

module _ (m : Meaning) (s t : State) (landings : t.landing ≡ s.landing) where
  -- at one place: where each arc that leaves it and offers it its rhs offers no more now, the rhs is no more
  pub rhs_below_at : (p : ℕ) → ((j : ℕ) → j < m.arcs → m.tail j ≡ p → rhs m s p ≡ offer m s j → offer m t j ≤ offer m s j) → rhs m t p ≤ rhs m s p
  rhs_below_at p lower = elim (cases_eq p s.landing) [
    | inl e ↦ omega (arith, ap (rhs m t) (e ∙ sym landings), rhs_landing m t)
    | inr d ↦ elim (cases_lt (rhs m s p) far) [ inl low ↦ by (rhs_from m s p d low) | inr high ↦ omega (arith, rhs_far m t p) ]
  ]
    where
      by : Offered m s p → rhs m t p ≤ rhs m s p
      by o = let l : offer m t o.arc ≤ offer m s o.arc = lower o.arc o.arc_within o.from o.is in
          let r : rhs m t (m.tail o.arc) ≤ offer m t o.arc = rhs_offer m t o.arc o.arc_within in
          omega (arith, ap (rhs m t) o.from, o.is)

  pub rhs_below : ((j : ℕ) → j < m.arcs → offer m t j ≤ offer m s j) → (p : ℕ) → rhs m t p ≤ rhs m s p
  rhs_below lower p = rhs_below_at p (λ j h e i. lower j h)

pub rhs_agrees : (m : Meaning) (s t : State) → t.landing ≡ s.landing → ((j : ℕ) → j < m.arcs → offer m t j ≡ offer m s j) → (p : ℕ) → rhs m t p ≡ rhs m s p
rhs_agrees m s t landings same p =
    let below : rhs m t p ≤ rhs m s p = rhs_below m s t landings (λ j h. let e = same j h in omega arith) p in
    let above : rhs m s p ≤ rhs m t p = rhs_below m t s (sym landings) (λ j h. let e = same j h in omega arith) p in
    omega arith

-- the rhs hangs on the costs of arcs, the values of places and the landing alone
pub rhs_same : (m : Meaning) → Lawful m → (t s : State) → ((j : ℕ) → j < m.arcs → t.cost j ≡ s.cost j) → ((p : ℕ) → p < m.places → t.g p ≡ s.g p) → t.landing ≡ s.landing → (p : ℕ) → rhs m t p ≡ rhs m s p
rhs_same m lawful t s costs values landings = rhs_agrees m s t landings (λ j h. ap₂ ◌⊕◌ (costs j h) (values (m.head j) (lawful.head_in j h)))

-- the tables that show a state tell its rhs
pub shown_rhs : (m : Meaning) → Lawful m → (s : State) (aim : Aim) (costs : List ℕ) (places : List Place) → Shows m s aim costs places → (p : ℕ) → rhs m (told aim costs places) p ≡ rhs m s p
shown_rhs m lawful s aim costs places shows = rhs_same m lawful (told aim costs places) s shows.costs_are shows.values_are shows.landing_is
