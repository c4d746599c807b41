-- Sums that stay at Far. Assumes nothing.
use Rattle.std.proofs.Common.{◌≡◌, ℕ, ◌≤◌, List, [], ◌∷◌, arith}
use Rattle.terms.specs.Amounts.{far, ◌⊕◌}
use Rattle.method.specs.Calls.{capped_sum}

pub capped_assoc : (a b c : ℕ) → (a ⊕ b) ⊕ c ≡ a ⊕ (b ⊕ c)
capped_assoc a b c = omega arith

pub capped_zero : (a : ℕ) → a ≤ far → a ⊕ 0 ≡ a
capped_zero a h = omega arith

capped_low : (cost : ℕ → ℕ) (js : List ℕ) → capped_sum cost js ≤ far
capped_low cost [] = omega arith
capped_low cost (j ∷ js) = omega arith

pub sum_start : (cost : ℕ → ℕ) (js : List ℕ) → capped_sum cost js ≡ 0 ⊕ capped_sum cost js
sum_start cost js = omega (arith, capped_low cost js)
