-- The place beside a cell, as the code finds it.
use Rattle.std.proofs.Common.{◌≡◌, ℕ, ◌/◌, ◌%◌, ℤ, Option, ap, ◌∙◌, ap₂, w32, SFits, to_z, of_z}
use Rattle.std.proofs.lemmas.Int.{to_z-of_z}
use Rattle.grid.specs.Compass.{step_of, moved, place_at, beside, neighbour}
use Rattle.grid.specs.declared.compass.Step.{Step}

-- a step that is cast to its bits and back is the same step
shift : (limit at at' : ℕ) (z y : ℤ) (v : Option ℕ) → SFits w32 z → at ≡ at' → z ≡ y → v ≡ moved limit at (to_z w32 (of_z w32 z)) → v ≡ moved limit at' y
shift limit at at' z y v f e g m = m ∙ ap (moved limit at) (to_z-of_z w32 z f ∙ g) ∙ ap (λ x. moved limit x y) e

pub found : (rows columns p r c d : ℕ) (s : Step) (v w : Option ℕ) → r ≡ p / columns → c ≡ p % columns → s ≡ step_of d → SFits w32 s.rows → SFits w32 s.columns → v ≡ moved rows r (to_z w32 (of_z w32 s.rows)) → w ≡ moved columns c (to_z w32 (of_z w32 s.columns)) → place_at columns v w ≡ neighbour rows columns p d
unfolding beside
found rows columns p r c d s v w row column e f g a b =
    ap₂ (place_at columns) (shift rows r (p / columns) s.rows (step_of d).rows v f row (ap (λ x. x.rows) e) a) (shift columns c (p % columns) s.columns (step_of d).columns w g column (ap (λ x. x.columns) e) b)
