-- The past of a plan: one accepted Begin, then calls with their answers, and what can be read off it. Assumes nothing.
use Rattle.std.specs.Prelude.{◌≡◌, ℕ, ◌+◌, ◌<◌, ◌≤◌, Bool, true, false, cond, List, [], ◌∷◌, Some, None, Option, ◌==◌}
use Rattle.std.specs.Option.{unwrap_or}
use Rattle.terms.specs.Amounts.{far}
use Rattle.terms.specs.declared.refusal.Refusal.{Refusal}
use Rattle.ground.specs.Meanings.{Meaning}
use Rattle.method.specs.States.{State, changed}
use Rattle.method.specs.Calls.{Call, set_cost, move_to, stretch_to, search_for, route_into, sum_over, Answer, done, settles, cuts, routes, sums, refuses, outcome, standing}

-- what Begin is given besides the ground and the tables
pub record Begin : Type 0 where
  pub here : ℕ
  pub landing : ℕ
  pub slack : ℕ

-- Begin accepts it
pub record Accepted (m : Meaning) (b : Begin) : Type 0 where
  pub here_within : b.here < m.places
  pub landing_within : b.landing < m.places
  pub slack_low : 16 ≤ b.slack
  pub slack_high : b.slack ≤ 160

-- the state that an accepted Begin leaves, whatever it found
abbrev pub begun : Meaning → Begin → State
begun m b = record { cost = m.least; here = b.here; landing = b.landing; slack = b.slack; g = λ _. far; closed = λ _. false; count = 0; phase = changed }

pub data Event : Type 0 where
  -- a call on Begin's ground and tables, and its answer
  called : Call → Answer → Event
  -- a Begin that was declined, or a call that was declined for the ground or the tables it was handed
  turned_away : Refusal → Event

-- the events after the accepted Begin, the latest first
abbrev pub Past : Type 0
Past = List Event

-- the state after an event
abbrev pub next : Meaning → State → Event → State
next m s (called call answer) = (outcome m s call).after
next m s (turned_away refusal) = s

-- the answer is the defined one
abbrev pub Right : Meaning → State → Event → Type 0
Right m s (called call answer) = answer ≡ (outcome m s call).answer
Right m s (turned_away refusal) = Unit {0}

-- the state that a past leads to
abbrev pub state_after : Meaning → Begin → Past → State
state_after m b [] = begun m b
state_after m b (e ∷ es) = next m (state_after m b es) e

-- every answer of the past is the defined one
abbrev pub Told : Meaning → Begin → Past → Type 0
Told m b [] = Unit {0}
Told m b (e ∷ es) = Right m (state_after m b es) e × Told m b es

-- the call was carried out
abbrev pub accepted : Answer → Bool
accepted done = true
accepted (settles made count) = true
accepted (cuts made count) = true
accepted (routes arcs sum) = true
accepted (sums total) = true
accepted (refuses refusal) = false

-- what the latest event says that says anything of it, and else what stood at first
abbrev pub latest : {X : Type 0} → (Event → Option X) → X → Past → X
latest says first [] = first
latest says first (e ∷ es) = unwrap_or (says e) (latest says first es)

abbrev pub given : {X : Type 0} → Answer → X → Option X
given answer x = cond (accepted answer) (Some x) None

-- an accepted Move gives the place
abbrev pub place_given : Event → Option ℕ
place_given (called (set_cost j c) a) = None
place_given (called (move_to p) a) = given a p
place_given (called (stretch_to e) a) = None
place_given (called (search_for turns) a) = None
place_given (called (route_into entries) a) = None
place_given (called (sum_over js) a) = None
place_given (turned_away refusal) = None

-- an accepted Stretch gives the slack
abbrev pub slack_given : Event → Option ℕ
slack_given (called (set_cost j c) a) = None
slack_given (called (move_to p) a) = None
slack_given (called (stretch_to e) a) = given a e
slack_given (called (search_for turns) a) = None
slack_given (called (route_into entries) a) = None
slack_given (called (sum_over js) a) = None
slack_given (turned_away refusal) = None

-- an accepted Set of this arc gives its cost, far where it shuts it
abbrev pub cost_given : ℕ → Event → Option ℕ
cost_given i (called (set_cost j c) a) = cond (i == j) (given a (standing c)) None
cost_given i (called (move_to p) a) = None
cost_given i (called (stretch_to e) a) = None
cost_given i (called (search_for turns) a) = None
cost_given i (called (route_into entries) a) = None
cost_given i (called (sum_over js) a) = None
cost_given i (turned_away refusal) = None

-- what stands now: the last that a call gave and that was carried out
abbrev pub here_in : Begin → Past → ℕ
here_in b es = latest place_given b.here es

abbrev pub slack_in : Begin → Past → ℕ
slack_in b es = latest slack_given b.slack es

abbrev pub cost_in : Meaning → Past → ℕ → ℕ
cost_in m es j = latest (cost_given j) (m.least j) es

-- the event alters the plan: an accepted Set, Move or Stretch
abbrev pub alters : Event → Bool
alters (called (set_cost j c) a) = accepted a
alters (called (move_to p) a) = accepted a
alters (called (stretch_to e) a) = accepted a
alters (called (search_for turns) a) = false
alters (called (route_into entries) a) = false
alters (called (sum_over js) a) = false
alters (turned_away refusal) = false

abbrev pub said_settled : Answer → Option Bool
said_settled done = None
said_settled (settles made count) = Some true
said_settled (cuts made count) = Some false
said_settled (routes arcs sum) = None
said_settled (sums total) = None
said_settled (refuses refusal) = None

-- an accepted Search says whether the plan is settled; what alters the plan ends that
abbrev pub settling : Event → Option Bool
settling (called (set_cost j c) a) = given a false
settling (called (move_to p) a) = given a false
settling (called (stretch_to e) a) = given a false
settling (called (search_for turns) a) = said_settled a
settling (called (route_into entries) a) = None
settling (called (sum_over js) a) = None
settling (turned_away refusal) = None

-- the last search that was carried out ended Settled, and nothing altered the plan after it
abbrev pub settled_in : Past → Bool
settled_in es = latest settling false es

abbrev pub turns_said : Answer → ℕ
turns_said done = 0
turns_said (settles made count) = made
turns_said (cuts made count) = made
turns_said (routes arcs sum) = 0
turns_said (sums total) = 0
turns_said (refuses refusal) = 0

-- the turns that an event answers
abbrev pub turns_of : Event → ℕ
turns_of (called call a) = turns_said a
turns_of (turned_away refusal) = 0

abbrev pub turns_in : Past → ℕ
turns_in [] = 0
turns_in (e ∷ es) = turns_of e + turns_in es
