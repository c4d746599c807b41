-- The calls on a plan that has begun: what each answers, and the state after it. Assumes nothing.
use Rattle.std.specs.Prelude.{ℕ, zero, suc, ◌-◌, Bool, true, false, cond, ◌&&◌, ◌||◌, ltb, List, [], ◌∷◌, length, Some, None, Option, ◌==◌, nat_le, nat_lt}
use Rattle.terms.specs.Amounts.{far, ◌⊕◌}
use Rattle.terms.specs.declared.refusal.Refusal.{Refusal}
use Rattle.terms.specs.declared.refusal.Refusal.TheVariants.{NoSuchPlace, StretchOutside, NoSuchArc, CostOutside, NotSettled, NoWay, ListShort}
use Rattle.ground.specs.Meanings.{Meaning}
use Rattle.ground.specs.Questions.{arcs_from}
use Rattle.method.specs.States.{State, Phase, changed, under_way, settled, is_changed, is_settled, put}
use Rattle.method.specs.Choices.{best}
use Rattle.method.specs.Values.{offer}
use Rattle.method.specs.Turns.{ended, run, all_of}

pub data Call : Type 0 where
  -- an arc and its new cost, where 0 shuts it
  set_cost : ℕ → ℕ → Call
  -- the place where the machine is now
  move_to : ℕ → Call
  -- the new slack
  stretch_to : ℕ → Call
  -- at most so many turns
  search_for : ℕ → Call
  -- the route, for a list of so many entries
  route_into : ℕ → Call
  -- what these arcs cost now
  sum_over : List ℕ → Call

pub data Answer : Type 0 where
  done : Answer
  -- the search ended, or was cut: its turns, and the turns since Closed was emptied
  settles : ℕ → ℕ → Answer
  cuts : ℕ → ℕ → Answer
  -- the arcs of the route and their sum
  routes : List ℕ → ℕ → Answer
  sums : ℕ → Answer
  refuses : Refusal → Answer

pub record Outcome : Type 0 where
  pub after : State
  pub answer : Answer

-- a refusal, if there is one, changes nothing
abbrev pub unless : State → Option Refusal → Outcome → Outcome
unless s (Some refusal) accepted = record { after = s; answer = refuses refusal }
unless s None accepted = accepted

-- the sum of arcs, which stays at far once it reaches it
abbrev pub capped_sum : (ℕ → ℕ) → List ℕ → ℕ
capped_sum cost [] = 0
capped_sum cost (j ∷ js) = cost j ⊕ capped_sum cost js

-- of arcs in rising number the one with the smallest offer, the lowest number among equal offers
abbrev pub cheapest : (ℕ → ℕ) → List ℕ → Option ℕ
cheapest offered js = best (λ i j. ltb (offered i) (offered j)) js

abbrev pub onward : Option ℕ → (ℕ → List ℕ) → List ℕ
onward None rest = []
onward (Some j) rest = j ∷ rest j

-- what stands once an arc is given a cost
abbrev pub standing : ℕ → ℕ
standing c = cond (c == 0) far c

module _ (m : Meaning) where
  -- the arcs from a place to the landing by the smallest offers; so many arcs at most
  unfoldable pub follow : State → ℕ → ℕ → List ℕ
  follow s zero p = []
  follow s (suc arcs) p =
      cond (p == s.landing) [] (onward (cheapest (offer m s) (arcs_from m p)) (λ j. follow s arcs (m.head j)))

  -- a route passes no place twice, so it has fewer arcs than there are places
  abbrev pub route_of : State → List ℕ
  route_of s = follow s m.places s.here

  abbrev pub set_refusal : ℕ → ℕ → Option Refusal
  set_refusal j c = cond (nat_lt j m.arcs) (cond (c == 0 || (nat_le (m.least j) c && nat_le c 10000)) None (Some CostOutside)) (Some NoSuchArc)

  abbrev pub move_refusal : ℕ → Option Refusal
  move_refusal p = cond (nat_lt p m.places) None (Some NoSuchPlace)

  abbrev pub stretch_refusal : ℕ → Option Refusal
  stretch_refusal e = cond (nat_le 16 e && nat_le e 160) None (Some StretchOutside)

  abbrev pub sum_refusal : List ℕ → Option Refusal
  sum_refusal js = cond (all_of (λ j. ltb j m.arcs) js) None (Some NoSuchArc)

  abbrev pub route_refusal : State → ℕ → Option Refusal
  route_refusal s entries =
      cond (is_settled s.phase) (cond (s.g s.here == far) (Some NoWay) (cond (nat_le (length (route_of s)) entries) None (Some ListShort))) (Some NotSettled)

  -- what a call that alters the plan leaves: the phase is changed, also where it repeats what stands
  abbrev pub cost_set : State → ℕ → ℕ → State
  cost_set s j c = record { cost = put s.cost j (standing c); here = s.here; landing = s.landing; slack = s.slack; g = s.g; closed = s.closed; count = s.count; phase = changed }

  abbrev pub moved : State → ℕ → State
  moved s p = record { cost = s.cost; here = p; landing = s.landing; slack = s.slack; g = s.g; closed = s.closed; count = s.count; phase = changed }

  abbrev pub stretched : State → ℕ → State
  stretched s e = record { cost = s.cost; here = s.here; landing = s.landing; slack = e; g = s.g; closed = s.closed; count = s.count; phase = changed }

  -- where a search starts: on a changed plan with Closed empty and the count at 0, else where the last one stopped
  abbrev pub emptied : State → State
  emptied s = record { cost = s.cost; here = s.here; landing = s.landing; slack = s.slack; g = s.g; closed = λ _. false; count = 0; phase = s.phase }

  abbrev pub start : State → State
  start s = cond (is_changed s.phase) (emptied s) s

  abbrev pub in_phase : Phase → State → State
  in_phase phase s = record { cost = s.cost; here = s.here; landing = s.landing; slack = s.slack; g = s.g; closed = s.closed; count = s.count; phase = phase }

  -- where the turns of a search led
  abbrev pub searched : State → ℕ → State
  searched s turns = run m turns (start s)

  -- the search ended or was cut
  abbrev pub verdict : Bool → ℕ → State → Outcome
  verdict true made s = record { after = in_phase settled s; answer = settles made s.count }
  verdict false made s = record { after = in_phase under_way s; answer = cuts made s.count }

  -- what a call does on Begin's ground and tables
  unfoldable pub outcome : State → Call → Outcome
  outcome s (set_cost j c) = unless s (set_refusal j c) (record { after = cost_set s j c; answer = done })
  outcome s (move_to p) = unless s (move_refusal p) (record { after = moved s p; answer = done })
  outcome s (stretch_to e) = unless s (stretch_refusal e) (record { after = stretched s e; answer = done })
  outcome s (search_for turns) = verdict (ended m (searched s turns)) ((searched s turns).count - (start s).count) (searched s turns)
  outcome s (route_into entries) = unless s (route_refusal s entries) (record { after = s; answer = routes (route_of s) (capped_sum s.cost (route_of s)) })
  outcome s (sum_over js) = unless s (sum_refusal js) (record { after = s; answer = sums (capped_sum s.cost js) })
