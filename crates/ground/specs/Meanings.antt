-- What a ground means, and the laws of that meaning. Assumes nothing.
use Rattle.std.specs.Prelude.{◌≡◌, ℕ, ◌+◌, ◌<◌, ◌≤◌}

-- Places and arcs are numbered from 0. What the functions give past the last arc or place means nothing.
pub record Meaning : Type 0 where
  -- how many places, and how many arcs
  pub places : ℕ
  pub arcs : ℕ
  -- where an arc starts and ends, and the least that it can cost
  pub tail : ℕ → ℕ
  pub head : ℕ → ℕ
  pub least : ℕ → ℕ
  -- an estimate of the way from the first place to the second
  pub estimate : ℕ → ℕ → ℕ

-- what every ground keeps
pub record Lawful (m : Meaning) : Type 0 where
  pub few_places : m.places ≤ 16384
  pub few_arcs : m.arcs ≤ 131072
  pub tail_in : (j : ℕ) → j < m.arcs → m.tail j < m.places
  pub head_in : (j : ℕ) → j < m.arcs → m.head j < m.places
  pub least_low : (j : ℕ) → j < m.arcs → 1 ≤ m.least j
  pub least_high : (j : ℕ) → j < m.arcs → m.least j ≤ 10000
  pub estimate_high : (a s : ℕ) → a < m.places → s < m.places → m.estimate a s ≤ 163830000
  -- a place is no way from itself
  pub estimate_self : (a : ℕ) → a < m.places → m.estimate a a ≡ 0
  -- along an arc the estimate rises by no more than the arc's least cost
  pub estimate_step : (a j : ℕ) → a < m.places → j < m.arcs → m.estimate a (m.head j) ≤ m.estimate a (m.tail j) + m.least j
