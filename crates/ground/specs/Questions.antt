-- What a ground answers when it is asked. Assumes nothing.
use Rattle.std.specs.Prelude.{ℕ, Bool, cond, ◌&&◌, List, Some, None, filter, Option, nat_eq, nat_lt}
use Rattle.std.specs.List.{range_with_len}
use Rattle.ground.specs.Meanings.{Meaning}

-- x where the ground has what was asked about, and else nothing
abbrev pub known : Bool → ℕ → Option ℕ
known there x = cond there (Some x) None

abbrev pub tail_of : Meaning → ℕ → Option ℕ
tail_of m j = known (nat_lt j m.arcs) (m.tail j)

abbrev pub head_of : Meaning → ℕ → Option ℕ
head_of m j = known (nat_lt j m.arcs) (m.head j)

abbrev pub least_of : Meaning → ℕ → Option ℕ
least_of m j = known (nat_lt j m.arcs) (m.least j)

abbrev pub estimate_of : Meaning → ℕ → ℕ → Option ℕ
estimate_of m a s = known (nat_lt a m.places && nat_lt s m.places) (m.estimate a s)

-- the arcs among the first `arcs` whose given end is the place p, in rising number
unfoldable pub arcs_at : (ℕ → ℕ) → ℕ → ℕ → List ℕ
arcs_at end arcs p = filter (λ j. nat_eq (end j) p) (range_with_len 0 arcs)

-- the arcs that leave a place
abbrev pub arcs_from : Meaning → ℕ → List ℕ
arcs_from m p = arcs_at m.tail m.arcs p

-- the arcs that enter a place
abbrev pub arcs_into : Meaning → ℕ → List ℕ
arcs_into m p = arcs_at m.head m.arcs p
