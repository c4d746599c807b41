-- The choice of a place and the end of a search in words, above the definitions that compute them. Assumes nothing.
use Rattle.std.specs.Prelude.{◌≡◌, ℕ, ◌<◌, true, false, ◌⊎◌, Some, None, ◌≢◌}
use Rattle.terms.specs.Amounts.{far}
use Rattle.ground.specs.Meanings.{Meaning}
use Rattle.method.specs.States.{State}
use Rattle.method.specs.Values.{rhs, open_places}
use Rattle.method.specs.Keys.{before, key}
use Rattle.method.specs.Turns.{soonest, ended}

module _ (m : Meaning) (s : State) where
  -- a place that waits for a turn: its value is not its rhs, and it is not closed
  pub record Waits (p : ℕ) : Type 0 where
    pub place_in : p < m.places
    pub not_level : s.g p ≡ rhs m s p → ⊥
    pub free : s.closed p ≡ false

  -- the place that has the turn: it waits, no waiting place has a smaller key, and none of a lower number has an equal one
  pub record HasTurn (p : ℕ) : Type 0 where
    pub waits : Waits p
    pub least : (q : ℕ) → Waits q → before (key m s q) (key m s p) ≡ false
    pub lowest : (q : ℕ) → Waits q → q < p → before (key m s p) (key m s q) ≡ true

  -- exactly one such place, and the definition finds it; none where nothing waits
  pub record TurnLaw : Type 0 where
    pub found : (p : ℕ) → soonest (key m s) (open_places m s) ≡ Some p → HasTurn p
    pub one : (p q : ℕ) → HasTurn p → HasTurn q → p ≡ q
    pub only : (p : ℕ) → HasTurn p → soonest (key m s) (open_places m s) ≡ Some p
    pub idle : soonest (key m s) (open_places m s) ≡ None → (q : ℕ) → Waits q → ⊥

  -- nothing waits; or here is level below far, and no waiting place has a smaller key than here
  abbrev pub SearchOver : Type 0
  SearchOver =
      ((q : ℕ) → Waits q → ⊥) ⊎ ((s.g s.here ≡ rhs m s s.here) × (s.g s.here ≢ far) × ((q : ℕ) → Waits q → before (key m s q) (key m s s.here) ≡ false))

  pub record EndLaw : Type 0 where
    pub ends : ended m s ≡ true → SearchOver
    pub over : SearchOver → ended m s ≡ true

abbrev pub ChoiceLaws : Type 0
ChoiceLaws = (m : Meaning) (s : State) → TurnLaw m s × EndLaw m s
