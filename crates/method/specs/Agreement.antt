-- States that say the same of a ground. Assumes nothing.
use Rattle.std.specs.Prelude.{◌≡◌, ℕ, ◌<◌}
use Rattle.ground.specs.Meanings.{Meaning, Lawful}
use Rattle.method.specs.States.{State}
use Rattle.method.specs.Calls.{Call, outcome}

-- the states agree wherever the ground has places and arcs; beyond them they may hold anything
pub record Agrees (m : Meaning) (s t : State) : Type 0 where
  pub costs : (j : ℕ) → j < m.arcs → t.cost j ≡ s.cost j
  pub values : (p : ℕ) → p < m.places → t.g p ≡ s.g p
  pub closeds : (p : ℕ) → p < m.places → t.closed p ≡ s.closed p
  pub heres : t.here ≡ s.here
  pub landings : t.landing ≡ s.landing
  pub slacks : t.slack ≡ s.slack
  pub counts : t.count ≡ s.count
  pub phases : t.phase ≡ s.phase

-- what a call answers, and what it leaves on the ground, does not depend on what is beyond
pub record Alike (m : Meaning) (s t : State) (call : Call) : Type 0 where
  pub answers : (outcome m t call).answer ≡ (outcome m s call).answer
  pub afters : Agrees m (outcome m s call).after (outcome m t call).after

abbrev pub AgreementLaw : Type 0
AgreementLaw = (m : Meaning) → Lawful m → (s t : State) → Agrees m s t → s.here < m.places → (call : Call) → Alike m s t call
