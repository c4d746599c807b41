-- What asking for a grid answers. Assumes nothing.
use Rattle.std.specs.Prelude.{◌≡◌, ℕ, ◌≤◌, Ok, Err, Result}
use Rattle.terms.specs.declared.refusal.Refusal.{Refusal}
use Rattle.terms.specs.declared.refusal.Refusal.TheVariants.{Outside}
use Rattle.grid.specs.declared.grid.Grid.{Grid}

-- there is a grid of so many rows and columns over such a base
abbrev pub InRange : ℕ → ℕ → ℕ → Type 0
InRange rows columns base = (1 ≤ rows) × (rows ≤ 128) × (1 ≤ columns) × (columns ≤ 128) × (1 ≤ base) × (base ≤ 1000)

-- that grid where all three are in range, and else the refusal
abbrev pub GridFor : ℕ → ℕ → ℕ → Result Grid Refusal → Type 0
GridFor rows columns base (Ok g) = InRange rows columns base × (g.rows ≡ rows) × (g.columns ≡ columns) × (g.base ≡ base)
GridFor rows columns base (Err e) = (InRange rows columns base → ⊥) × (e ≡ Outside)
