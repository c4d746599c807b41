-- Amounts. Assumes nothing.
use Rattle.std.specs.Prelude.{ℕ, ◌+◌, min}

infixl 60 ◌⊕◌
-- what a shut arc costs
abbrev pub far : ℕ
far = 4294967295

-- the sum of two amounts, capped at far
abbrev pub ◌⊕◌ : ℕ → ℕ → ℕ
a ⊕ b = min (a + b) far
