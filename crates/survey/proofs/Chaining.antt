-- Chains that grow by an arc, and what they sum to.
use Rattle.std.proofs.Common.{◌≡◌, ℕ, ◌+◌, ◌<◌, ◌≤◌, List, [], ◌∷◌, ◌++◌, sym, refl, ap, arith}
use Rattle.ground.specs.Chains.{Chain, sum_of}
use Rattle.ground.specs.Meanings.{Meaning}

module _ (g : Meaning) where
  pub chain_more : (a : ℕ) (js : List ℕ) (j : ℕ) → j < g.arcs → g.head j < g.places → Chain g a js (g.tail j) → Chain g a (js ++ j ∷ []) (g.head j)
  chain_more a [] j h k c = (h, sym c.1, (k, refl))
  chain_more a (i ∷ js) j h k c = (c.0, c.1, chain_more (g.head i) js j h k c.2)

  pub sum_more : (cost : ℕ → ℕ) (js : List ℕ) (j : ℕ) → sum_of cost (js ++ j ∷ []) ≡ sum_of cost js + cost j
  sum_more cost [] j = omega arith
  sum_more cost (i ∷ js) j = omega (arith, sum_more cost js j)

  -- where no arc leads to a sum lower by more than its cost, no chain does
  pub chain_falls : (s : ℕ → ℕ) (top : ℕ) → ((j : ℕ) → j < g.arcs → s (g.tail j) < top → (s (g.head j) ≤ s (g.tail j) + g.least j) × (s (g.head j) < top)) → (js : List ℕ) (a b : ℕ) → Chain g a js b → s a < top → (s b ≤ s a + sum_of g.least js) × (s b < top)
  chain_falls s top step [] a b c h = let e = ap s c.1 in (omega arith, omega arith)
  chain_falls s top step (j ∷ js) a b c h =
      let e = ap s c.1 in
      let one = step j c.0 (omega arith) in
      let rest = chain_falls s top step js (g.head j) b c.2 one.1 in
      (omega arith, rest.1)
