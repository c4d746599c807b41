-- The state of a plan. Assumes nothing.
use Rattle.std.specs.Prelude.{ℕ, Bool, true, false, cond, ◌==◌}

-- how far a plan is: something was changed since its last search, its last search was cut, or it settled
pub data Phase : Type 0 where
  changed : Phase
  under_way : Phase
  settled : Phase

abbrev pub is_changed : Phase → Bool
is_changed changed = true
is_changed under_way = false
is_changed settled = false

abbrev pub is_settled : Phase → Bool
is_settled changed = false
is_settled under_way = false
is_settled settled = true

pub record State : Type 0 where
  -- what each arc costs now; a shut arc costs far
  pub cost : ℕ → ℕ
  -- where the machine stands, where it drives to, and the slack in sixteenths
  pub here : ℕ
  pub landing : ℕ
  pub slack : ℕ
  -- the value of each place: what the search believes the way from it to the landing to cost
  pub g : ℕ → ℕ
  -- the places that had their over turn since Closed was emptied, and how many turns were made since then
  pub closed : ℕ → Bool
  pub count : ℕ
  pub phase : Phase

-- a function with another value at one number
abbrev pub put : {X : Type 0} → (ℕ → X) → ℕ → X → ℕ → X
put f k x q = cond (q == k) x (f q)
