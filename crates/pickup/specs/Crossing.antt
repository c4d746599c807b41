-- The law of the pick-up. Assumes nothing.
use Rattle.std.specs.Prelude.{◌≡◌, ℕ, ◌+◌, ◌*◌, ◌<◌, ◌↔◌, List, ◌∷◌, ◌++◌, map}
use Rattle.ground.specs.Chains.{Chain}
use Rattle.ground.specs.Meanings.{Meaning}
use Rattle.pickup.specs.Layers.{layered}

-- the arcs are those of a chain below from p to q, then the pick-up, then the copies of those of a chain below from q to t
abbrev pub Crosses : Meaning → ℕ → ℕ → List ℕ → ℕ → Type 0
Crosses b q p js t = (first second : List ℕ) × (js ≡ first ++ (2 * b.arcs) ∷ map (λ j. b.arcs + j) second) × Chain b p first q × Chain b q second t

-- where the layer has places, its chains from p to n + t are exactly those
abbrev pub CrossingLaw : Meaning → ℕ → Type 0
CrossingLaw b q = 0 < (layered b q).places → (p t : ℕ) (js : List ℕ) → p < b.places → Chain (layered b q) p js (b.places + t) ↔ Crosses b q p js t
