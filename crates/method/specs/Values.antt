-- The value that a place's arcs offer it, and which places are open. Assumes nothing.
use Rattle.std.specs.Prelude.{ℕ, min, Bool, cond, not, ◌&&◌, List, [], ◌∷◌, map, filter, ◌==◌, nat_lt}
use Rattle.std.specs.List.{range_with_len}
use Rattle.terms.specs.Amounts.{far, ◌⊕◌}
use Rattle.ground.specs.Meanings.{Meaning}
use Rattle.ground.specs.Questions.{arcs_from}
use Rattle.method.specs.States.{State}

-- the smallest of some amounts, and far where there is none
abbrev pub smallest : List ℕ → ℕ
smallest [] = far
smallest (x ∷ xs) = min x (smallest xs)

module _ (m : Meaning) (s : State) where
  -- the way over an arc: its cost and the value of its head
  abbrev pub offer : ℕ → ℕ
  offer j = s.cost j ⊕ s.g (m.head j)

  -- the smallest offer of the arcs that leave a place; the landing needs none
  unfoldable pub rhs : ℕ → ℕ
  rhs p = cond (p == s.landing) 0 (smallest (map offer (arcs_from m p)))

  -- a place is over, under or level as its value is above, below or equal to its rhs
  abbrev pub over : ℕ → Bool
  over p = nat_lt (rhs p) (s.g p)

  abbrev pub under : ℕ → Bool
  under p = nat_lt (s.g p) (rhs p)

  abbrev pub level : ℕ → Bool
  level p = s.g p == rhs p

  -- the places that wait for a turn: neither level nor closed
  unfoldable pub is_open : ℕ → Bool
  is_open p = not (level p) && not (s.closed p)

  abbrev pub open_places : List ℕ
  open_places = filter is_open (range_with_len 0 m.places)
