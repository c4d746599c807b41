-- Least sums over the chains of a table of arcs. Assumes nothing.
use Rattle.std.specs.Prelude.{◌≡◌, ℕ, ◌+◌, ◌<◌, ◌≤◌, List, [], length, slice_index}
use Rattle.ground.specs.Chains.{Chain, sum_of}
use Rattle.ground.specs.Meanings.{Meaning}
use Rattle.roads.specs.Heights.{roads_meaning}
use Rattle.terms.specs.Amounts.{far}
use Rattle.terms.specs.declared.arc.Arc.{Arc}

-- n places and the arcs of a table, before there are heights: every estimate is 0
abbrev pub flat : ℕ → List Arc → Meaning
flat n arcs = roads_meaning n arcs []

-- x is the sum of some chain between two places, and no chain sums to less
pub record LeastSum (g : Meaning) (from to x : ℕ) : Type 0 where
  pub chain : List ℕ
  pub joins : Chain g from chain to
  pub sum : sum_of g.least chain ≡ x
  pub least : (js : List ℕ) → Chain g from js to → x ≤ sum_of g.least js

-- no chain joins the two places
abbrev pub Apart : Meaning → ℕ → ℕ → Type 0
Apart g from to = (js : List ℕ) → Chain g from js to → ⊥

-- the sums, one for each place, tell the least sum or that there is no chain; and no arc leads to a lower sum
pub record Surveyed (g : Meaning) (from : ℕ) (sums : List ℕ) : Type 0 where
  pub size : length sums ≡ g.places
  pub reached : (p : ℕ) → p < g.places → slice_index sums p < far → LeastSum g from p (slice_index sums p)
  pub apart : (p : ℕ) → p < g.places → far ≤ slice_index sums p → Apart g from p
  pub low : (p : ℕ) → p < g.places → slice_index sums p < far → slice_index sums p ≤ 163830000
  pub steps : (j : ℕ) → j < g.arcs → slice_index sums (g.tail j) < far → slice_index sums (g.head j) ≤ slice_index sums (g.tail j) + g.least j
