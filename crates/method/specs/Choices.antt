-- The best of some numbers. Assumes nothing.
use Rattle.std.specs.Prelude.{ℕ, Bool, cond, List, [], ◌∷◌, Some, None, Option}

-- a number, unless the one found behind it beats it
abbrev pub better : (ℕ → ℕ → Bool) → ℕ → Option ℕ → Option ℕ
better beats p None = Some p
better beats p (Some q) = cond (beats q p) (Some q) (Some p)

-- of numbers in rising order the one that none beats, the lowest among equals
abbrev pub best : (ℕ → ℕ → Bool) → List ℕ → Option ℕ
best beats [] = None
best beats (p ∷ ps) = better beats p (best beats ps)
