-- One turn of a search, and when a search ends. Assumes nothing.
use Rattle.std.specs.Prelude.{ℕ, zero, suc, ◌+◌, Bool, true, false, cond, not, ◌&&◌, ◌||◌, List, [], ◌∷◌, Some, None, Option, ◌==◌}
use Rattle.terms.specs.Amounts.{far}
use Rattle.ground.specs.Meanings.{Meaning}
use Rattle.method.specs.States.{State, put}
use Rattle.method.specs.Choices.{best}
use Rattle.method.specs.Values.{rhs, over, level, open_places}
use Rattle.method.specs.Keys.{Key, before, key}

-- of places in rising number the one with the smallest key, the lowest number among equal keys
abbrev pub soonest : (ℕ → Key) → List ℕ → Option ℕ
soonest key ps = best (λ q p. before (key q) (key p)) ps

-- every element passes
abbrev pub all_of : (ℕ → Bool) → List ℕ → Bool
all_of test [] = true
all_of test (p ∷ ps) = test p && all_of test ps

abbrev pub is_none : List ℕ → Bool
is_none [] = true
is_none (p ∷ ps) = false

module _ (m : Meaning) where
  -- p comes before here by its key; before a here that is level at far, every place does
  abbrev pub here_after : State → ℕ → Bool
  here_after s p = s.g s.here == far || before (key m s p) (key m s s.here)

  -- nothing is open, or here is level and no open place has a smaller key
  unfoldable pub ended : State → Bool
  ended s = is_none (open_places m s) || (level m s s.here && all_of (λ p. not (here_after s p)) (open_places m s))

  -- an over place takes its rhs for its value and is closed; an under place falls back to far
  unfoldable pub turn_taken : State → ℕ → State
  turn_taken s p = record {
    cost = s.cost;
    here = s.here;
    landing = s.landing;
    slack = s.slack;
    g = put s.g p (cond (over m s p) (rhs m s p) far);
    closed = put s.closed p (over m s p || s.closed p);
    count = s.count + 1;
    phase = s.phase;
  }

  abbrev pub turn_with : State → Option ℕ → State
  turn_with s None = s
  turn_with s (Some p) = turn_taken s p

  -- one turn: the open place with the smallest key has it
  abbrev pub turn : State → State
  turn s = turn_with s (soonest (key m s) (open_places m s))

  -- turns until the search ends, at most so many
  unfoldable pub run : ℕ → State → State
  run zero s = s
  run (suc turns) s = let further = run turns (turn s) in cond (ended s) s further
