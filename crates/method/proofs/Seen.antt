-- A bad place is seen: where a place's rhs breaks the slack against some chain, an open over place on that chain has a smaller key.
-- Assumes nothing.
use Rattle.std.proofs.Common.{◌≡◌, ℕ, ◌+◌, ◌*◌, ◌<◌, ◌≤◌, true, false, ◌⊎◌, List, [], ◌∷◌, ap, inl, inr, mul-le-mul_right, mul-le-mul_left, mul-add, arith}
use Rattle.std.proofs.lemmas.Bool.{cases_Bool, cases_lt}
use Rattle.terms.specs.Amounts.{far}
use Rattle.ground.specs.Meanings.{Meaning, Lawful}
use Rattle.ground.specs.Chains.{Chain, sum_of}
use Rattle.method.specs.States.{State}
use Rattle.method.specs.Values.{rhs}
use Rattle.method.proofs.Offers.{rhs_landing, rhs_offer}

-- what holds of a plan's numbers, whatever was called
pub record Standing (m : Meaning) (s : State) : Type 0 where
  pub here_within : s.here < m.places
  pub landing_within : s.landing < m.places
  pub slack_low : 16 ≤ s.slack
  pub slack_high : s.slack ≤ 160
  pub cost_low : (j : ℕ) → j < m.arcs → m.least j ≤ s.cost j
  pub cost_high : (j : ℕ) → j < m.arcs → s.cost j < far → s.cost j ≤ 10000
  pub cost_far : (j : ℕ) → j < m.arcs → s.cost j ≤ far
  pub value_far : (p : ℕ) → s.g p ≤ far

-- every closed place keeps the slack against every chain from it to the landing
abbrev pub ClosedGood : Meaning → State → Type 0
ClosedGood m s = (c : ℕ) → c < m.places → s.closed c ≡ true → (js : List ℕ) → Chain m c js s.landing → 16 * s.g c ≤ s.slack * sum_of s.cost js

-- an over place that is not closed, with a key whose first number is at most the slack times sum and estimate
pub record Seen (m : Meaning) (s : State) (sum p : ℕ) : Type 0 where
  pub place : ℕ
  pub place_in : place < m.places
  pub is_over : rhs m s place < s.g place
  pub free : s.closed place ≡ false
  pub near : 16 * rhs m s place + s.slack * m.estimate s.here place ≤ s.slack * (sum + m.estimate s.here p)

module _ (m : Meaning) (law : Lawful m) (s : State) (st : Standing m s) where
  -- the estimate to the head of an arc, times the slack
  pub along : (p j : ℕ) → j < m.arcs → m.tail j ≡ p → s.slack * m.estimate s.here (m.head j) ≤ s.slack * m.estimate s.here p + s.slack * s.cost j
  along p j h e =
      let step : m.estimate s.here (m.head j) ≤ m.estimate s.here p + s.cost j = omega (arith, law.estimate_step s.here j st.here_within h, st.cost_low j h, ap (m.estimate s.here) e) in
      omega (arith, mul-le-mul_left s.slack step, mul-add s.slack (m.estimate s.here p) (s.cost j))

  pub see : ClosedGood m s → (js : List ℕ) (p : ℕ) → Chain m p js s.landing → s.slack * sum_of s.cost js < 16 * rhs m s p → Seen m s (sum_of s.cost js) p
  see good [] p c h = absurd (omega (arith, ap (rhs m s) c.1, rhs_landing m s))
  see good (j ∷ js) p c h =
      let v = m.head j in
      let more = sum_of s.cost js in
      let slack = s.slack in
      let parts = mul-add slack (s.cost j) more in
      let least = mul-le-mul_right (s.cost j) st.slack_low in
      let best : rhs m s p ≤ s.cost j + s.g v = omega (arith, rhs_offer m s j c.0, ap (rhs m s) c.1) in
      elim (cases_lt (slack * more) (16 * s.g v)) [
        | inr low ↦ absurd (omega arith)
        | inl high ↦ elim (cases_lt (slack * more) (16 * rhs m s v)) [
          | inl bad ↦ further (see good js v c.2 bad)
          | inr fine ↦ record {
            place = v;
            place_in = law.head_in j c.0;
            is_over = omega arith;
            free = not_closed high (cases_Bool (s.closed v));
            near = omega (arith, along p j c.0 c.1, mul-add slack (s.cost j + more) (m.estimate s.here p));
          }
        ]
      ]
    where
      not_closed : s.slack * sum_of s.cost js < 16 * s.g (m.head j) → (s.closed (m.head j) ≡ true) ⊎ (s.closed (m.head j) ≡ false) → s.closed (m.head j) ≡ false
      not_closed high (inl shut) = absurd (omega (arith, good (m.head j) (law.head_in j c.0) shut js c.2))
      not_closed high (inr free) = free

      further : Seen m s (sum_of s.cost js) (m.head j) → Seen m s (s.cost j + sum_of s.cost js) p
      further seen = record {
        place = seen.place;
        place_in = seen.place_in;
        is_over = seen.is_over;
        free = seen.free;
        near = omega (arith, seen.near, along p j c.0 c.1, mul-add s.slack (s.cost j) (sum_of s.cost js), mul-add s.slack (s.cost j + sum_of s.cost js) (m.estimate s.here p), mul-add s.slack (sum_of s.cost js) (m.estimate s.here (m.head j)));
      }
