-- What the steps of a search make of the tables. Assumes nothing.
use Rattle.std.specs.Prelude.{◌≡◌, ℕ, ◌+◌, ◌<◌, Bool, true, false, cond, List, length, Some, None, Option}
use Rattle.ground.specs.Meanings.{Meaning}
use Rattle.method.specs.States.{State}
use Rattle.method.specs.Turns.{ended, turn, turn_taken, run}
use Rattle.method.specs.Calls.{emptied}
use Rattle.queue.specs.declared.entry.Entry.{Entry}
use Rattle.queue.specs.declared.key.Key.{Key}
use Rattle.search.specs.declared.aim.Aim.{Aim}
use Rattle.search.specs.declared.place.Place.{Place}
use Rattle.search.specs.declared.made.Made.{Made}
use Rattle.search.specs.Tables.{place_at, Shows, Cached}
use Rattle.search.specs.Queued.{Synced, reopened}

-- the place whose turn it is, or that the end test holds
abbrev pub Due : Meaning → State → Option ℕ → Type 0
Due m s None = ended m s ≡ true
Due m s (Some p) = (ended m s ≡ false) × (turn m s ≡ turn_taken m s p) × (p < m.places)

-- the tables are in step: each rhs is the defined one, and the queue holds the places that wait
pub record InStep (m : Meaning) (aim : Aim) (costs : List ℕ) (places : List Place) (es : List (Entry Key)) : Type 0 where
  pub cached : Cached m aim costs places
  pub synced : Synced m aim m.places places es

-- one turn at a place
pub record TurnMade (m : Meaning) (aim : Aim) (costs : List ℕ) (p : ℕ) (places : List Place) (es : List (Entry Key)) (places' : List Place) (es' : List (Entry Key)) : Type 0 where
  pub shows : (s : State) → Shows m s aim costs places → Cached m aim costs places → Shows m (turn_taken m s p) aim costs places'
  pub in_step : InStep m aim costs places es → InStep m aim costs places' es'

-- turns until the search ends, at most so many
pub record RunMade (m : Meaning) (aim : Aim) (costs : List ℕ) (turns : ℕ) (places : List Place) (es : List (Entry Key)) (places' : List Place) (es' : List (Entry Key)) (made : Made) : Type 0 where
  pub in_step : InStep m aim costs places es → InStep m aim costs places' es'
  pub shows : InStep m aim costs places es → (s : State) → Shows m s aim costs places → Shows m (run m turns s) aim costs places'
  pub counted : InStep m aim costs places es → (s : State) → Shows m s aim costs places → (run m turns s).count ≡ s.count + made.turns
  pub ends : InStep m aim costs places es → (s : State) → Shows m s aim costs places → made.settled ≡ ended m (run m turns s)

-- Closed is emptied, and the queue is made anew
pub record StartedAfresh (m : Meaning) (aim : Aim) (places places' : List Place) (es' : List (Entry Key)) : Type 0 where
  pub reopens : (p : ℕ) → p < length places → place_at places' p ≡ reopened (place_at places p)
  pub synced : Synced m aim m.places places' es'

-- what a search makes of tables whose values are in step, and whose queue is too unless it starts afresh
pub record SearchMade (m : Meaning) (aim : Aim) (afresh : Bool) (costs : List ℕ) (turns : ℕ) (places : List Place) (places' : List Place) (es' : List (Entry Key)) (made : Made) (s : State) : Type 0 where
  pub in_step : InStep m aim costs places' es'
  pub shows : Shows m (run m turns (cond afresh (emptied m s) s)) aim costs places'
  pub counted : (run m turns (cond afresh (emptied m s) s)).count ≡ (cond afresh (emptied m s) s).count + made.turns
  pub ends : made.settled ≡ ended m (run m turns (cond afresh (emptied m s) s))

-- no turn was made, and the tables are as they were
pub record LeftAlone (places : List Place) (es : List (Entry Key)) (places' : List Place) (es' : List (Entry Key)) (made : Made) : Type 0 where
  pub none : made ≡ record { settled = false; turns = 0 }
  pub same_places : places' ≡ places
  pub same_entries : es' ≡ es
