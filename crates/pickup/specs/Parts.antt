-- How a layer's arcs and places lie over those of the ground below. Assumes nothing.
use Rattle.std.specs.Prelude.{◌≡◌, ℕ, ◌+◌, ◌-◌, ◌*◌, ◌<◌, ◌≤◌, cond, Some, None, Option, nat_lt}
use Rattle.ground.specs.Meanings.{Meaning}
use Rattle.ground.specs.declared.end.End.{End}
use Rattle.ground.specs.declared.end.End.TheVariants.{Tail, Head}
use Rattle.pickup.specs.Layers.{layered, lowered}
use Rattle.pickup.specs.declared.parts.Part.{Part}
use Rattle.pickup.specs.declared.parts.Part.TheVariants.{Before, After, Crossing}
use Rattle.pickup.specs.declared.parts.Side.{Side}

-- the place at an end of the pick-up arc
abbrev pub crossing_end : End → Meaning → ℕ → ℕ
crossing_end Tail b q = q
crossing_end Head b q = b.places + q

-- which arc of the layer j is, if there is one
abbrev pub part_of : Meaning → ℕ → ℕ → Option Part
part_of b q j = cond (nat_lt j (layered b q).arcs) (Some (cond (nat_lt j b.arcs) (Before j) (cond (nat_lt j (2 * b.arcs)) (After (j - b.arcs)) Crossing))) None

-- the side of the pick-up that p is on, if there is such a place: the place below, and the first arc of that copy
abbrev pub SideOf : Meaning → ℕ → ℕ → Option Side → Type 0
SideOf b q p None = (layered b q).places ≤ p
SideOf b q p (Some s) = (p < (layered b q).places) × (s.place ≡ lowered b.places p) × (s.first ≡ cond (nat_lt p b.places) 0 b.arcs)
