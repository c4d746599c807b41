-- What Begin and Set write into the tables. Assumes nothing.
use Rattle.std.specs.Prelude.{◌≡◌, ℕ, false, cond, List, ◌==◌, slice_set}
use Rattle.terms.specs.Amounts.{far}
use Rattle.ground.specs.Meanings.{Meaning}
use Rattle.method.specs.Values.{rhs}
use Rattle.search.specs.Tables.{place_at, told}
use Rattle.search.specs.declared.aim.Aim.{Aim}
use Rattle.search.specs.declared.place.Place.{Place}

-- a place of a plan that has just begun
abbrev pub fresh_place : ℕ → ℕ → Place
fresh_place landing p = record { g = far; rhs = cond (p == landing) 0 far; closed = false }

-- one arc costs this, and the rhs of its tail is the defined one
pub record CostWritten (m : Meaning) (aim : Aim) (arc cost : ℕ) (costs : List ℕ) (places : List Place) (costs' : List ℕ) (places' : List Place) : Type 0 where
  pub costs_are : costs' ≡ slice_set costs arc cost
  pub places_are : places' ≡ slice_set places (m.tail arc) (record { g = (place_at places (m.tail arc)).g; rhs = rhs m (told aim costs' places) (m.tail arc); closed = (place_at places (m.tail arc)).closed })
