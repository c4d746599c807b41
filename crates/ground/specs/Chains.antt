-- Chains of arcs over a meaning. Assumes nothing.
use Rattle.std.specs.Prelude.{◌≡◌, ℕ, ◌+◌, ◌<◌, List, [], ◌∷◌, map}
use Rattle.ground.specs.Meanings.{Meaning}

-- the arcs, one after the other, join place a to place b
abbrev pub Chain : Meaning → ℕ → List ℕ → ℕ → Type 0
Chain m a [] b = (a < m.places) × (a ≡ b)
Chain m a (j ∷ js) b = (j < m.arcs) × (m.tail j ≡ a) × Chain m (m.head j) js b

-- the places that a chain from a passes: a, and then the head of each arc
abbrev pub passes : Meaning → ℕ → List ℕ → List ℕ
passes m a js = a ∷ map m.head js

-- the sum of a chain, where each arc costs what `cost` says
abbrev pub sum_of : (ℕ → ℕ) → List ℕ → ℕ
sum_of cost [] = 0
sum_of cost (j ∷ js) = cost j + sum_of cost js
