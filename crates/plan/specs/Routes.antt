-- The steps of a route over the tables. Assumes nothing.
use Rattle.std.specs.Prelude.{◌≡◌, ℕ, Bool, cond, ◌&&◌, List, length, Some, None, Option, ◌==◌, nat_lt, slice_index}
use Rattle.terms.specs.Amounts.{far}
use Rattle.ground.specs.Meanings.{Meaning}
use Rattle.ground.specs.Questions.{arcs_from}
use Rattle.method.specs.Calls.{cheapest, capped_sum, follow}
use Rattle.search.specs.Tables.{offered, place_at, told}
use Rattle.search.specs.declared.aim.Aim.{Aim}
use Rattle.search.specs.declared.place.Place.{Place}

-- the place has the value far
abbrev pub far_at : List Place → ℕ → Bool
far_at places p = nat_lt p (length places) && (place_at places p).g == far

-- an arc and the place that it leads to
abbrev pub with_head : Meaning → Option ℕ → Option (ℕ × ℕ)
with_head m None = None
with_head m (Some j) = Some (j, m.head j)

-- the next step of the route from a place
abbrev pub step_from : Meaning → ℕ → List ℕ → List Place → ℕ → Option (ℕ × ℕ)
step_from m landing costs places p = cond (p == landing) None (with_head m (cheapest (offered m costs places) (arcs_from m p)))

-- the route of the tables
abbrev pub route_in : Meaning → Aim → List ℕ → List Place → List ℕ
route_in m aim costs places = follow m (told aim costs places) m.places aim.here

-- the route stands in the list, if that is just as long
pub record Written (m : Meaning) (aim : Aim) (costs : List ℕ) (places : List Place) (list list' : List ℕ) (sum : ℕ) : Type 0 where
  pub listed : length list ≡ length (route_in m aim costs places) → list' ≡ route_in m aim costs places
  pub summed : length list ≡ length (route_in m aim costs places) → sum ≡ capped_sum (λ j. slice_index costs j) (route_in m aim costs places)
