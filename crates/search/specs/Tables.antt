-- The tables that a plan is kept in, and the state that they show. Assumes nothing.
use Rattle.std.specs.Prelude.{◌≡◌, ℕ, ◌<◌, Bool, false, cond, ◌&&◌, List, length, get_or, ◌==◌, nat_lt, slice_index, slice_index_or}
use Rattle.terms.specs.Amounts.{far, ◌⊕◌}
use Rattle.ground.specs.Meanings.{Meaning}
use Rattle.method.specs.States.{State, changed}
use Rattle.method.specs.Values.{rhs}
use Rattle.search.specs.declared.aim.Aim.{Aim}
use Rattle.search.specs.declared.place.Place.{Place}

-- what stands beyond the last entry
abbrev pub nowhere : Place
nowhere = record { g = 0; rhs = 0; closed = false }

abbrev pub place_at : List Place → ℕ → Place
place_at places p = slice_index_or places p nowhere

-- the place with another rhs
abbrev pub with_rhs : Place → ℕ → Place
with_rhs place x = record { g = place.g; rhs = x; closed = place.closed }

-- one entry for each arc and each place of the ground
pub record Sized (m : Meaning) (costs : List ℕ) (places : List Place) : Type 0 where
  pub costs_fit : length costs ≡ m.arcs
  pub places_fit : length places ≡ m.places

abbrev pub fits : Meaning → List ℕ → List Place → Bool
fits m costs places = length costs == m.arcs && length places == m.places

-- here and the landing are places of the ground
pub record Within (m : Meaning) (aim : Aim) : Type 0 where
  pub here_within : aim.here < m.places
  pub landing_within : aim.landing < m.places

-- the way over an arc: its cost and the value of its head
abbrev pub offered : Meaning → List ℕ → List Place → ℕ → ℕ
offered m costs places j = get_or costs j 0 ⊕ (place_at places (m.head j)).g

-- the same, and Far over no arc of the ground
abbrev pub offer_of : Meaning → List ℕ → List Place → ℕ → ℕ
offer_of m costs places j = cond (nat_lt j m.arcs) (offered m costs places j) far

-- the state that the tables tell, as far as values go; the count and the phase stand elsewhere
abbrev pub told : Aim → List ℕ → List Place → State
told aim costs places = record { cost = λ j. slice_index costs j; here = aim.here; landing = aim.landing; slack = aim.slack.sixteenths; g = λ p. (place_at places p).g; closed = λ p. (place_at places p).closed; count = 0; phase = changed }

-- the tables say of the ground's arcs and places what the state says
pub record Shows (m : Meaning) (s : State) (aim : Aim) (costs : List ℕ) (places : List Place) : Type 0 where
  pub costs_are : (j : ℕ) → j < m.arcs → slice_index costs j ≡ s.cost j
  pub values_are : (p : ℕ) → p < m.places → (place_at places p).g ≡ s.g p
  pub closed_are : (p : ℕ) → p < m.places → (place_at places p).closed ≡ s.closed p
  pub here_is : aim.here ≡ s.here
  pub landing_is : aim.landing ≡ s.landing
  pub slack_is : aim.slack.sixteenths ≡ s.slack

-- each place's stored rhs is the defined one
abbrev pub Cached : Meaning → Aim → List ℕ → List Place → Type 0
Cached m aim costs places = (p : ℕ) → p < m.places → (place_at places p).rhs ≡ rhs m (told aim costs places) p
