-- The state of a survey under way. Assumes nothing.
use Rattle.std.specs.Ordering.{nat_cmp}
use Rattle.std.specs.Prelude.{◌≡◌, ℕ, ◌+◌, ◌*◌, ◌<◌, ◌≤◌, List, Contains, length, Some, None, sum, count_by, nat_lt, slice_index, slice_index_or}
use Rattle.ground.specs.Chains.{Chain, sum_of}
use Rattle.ground.specs.Meanings.{Meaning}
use Rattle.queue.specs.Calls.{Low}
use Rattle.queue.specs.Content.{key_of, held}
use Rattle.queue.specs.Sound.{Sound}
use Rattle.queue.specs.declared.entry.Entry.{Entry}
use Rattle.terms.specs.Amounts.{far}

-- how many places have a sum
abbrev pub reached : List ℕ → ℕ
reached sums = count_by (λ s. nat_lt s far) sums

-- what is left to do: it falls with every sum that is lowered and every place that is taken up
abbrev pub weight : List ℕ → List (Entry ℕ) → ℕ
weight sums es = 2 * sum sums + held es

-- Every sum is that of some chain, and every arc is relaxed but the pending ones and those that leave a queued place.
pub record Labelled (g : Meaning) (from : ℕ) (pending : List ℕ) (sums : List ℕ) (es : List (Entry ℕ)) : Type 0 where
  pub size : length sums ≡ g.places
  pub slots : length es ≡ g.places
  pub top : (p : ℕ) → slice_index sums p ≤ far
  pub start : slice_index_or sums from 0 ≡ 0
  pub chains : (p : ℕ) → p < g.places → slice_index sums p < far → (js : List ℕ) × Chain g from js p × (sum_of g.least js ≡ slice_index sums p)
  pub bound : (p : ℕ) → p < g.places → slice_index sums p < far → slice_index sums p + 10000 ≤ 10000 * reached sums
  pub relaxed : (j : ℕ) → j < g.arcs → ¬ Contains pending j → slice_index sums (g.tail j) < far → key_of es (g.tail j) ≡ None → slice_index sums (g.head j) ≤ slice_index sums (g.tail j) + g.least j
  pub sound : Sound nat_cmp es
  pub low : Low es
  pub known : (p k : ℕ) → key_of es p ≡ Some k → slice_index sums p < far

-- a step of the survey: fewer arcs are pending, no sum rises, and there is no more to do than before
pub record Onward (g : Meaning) (from : ℕ) (pending sums : List ℕ) (es : List (Entry ℕ)) (sums' : List ℕ) (es' : List (Entry ℕ)) : Type 0 where
  pub labelled : Labelled g from pending sums' es'
  pub lighter : weight sums' es' ≤ weight sums es
