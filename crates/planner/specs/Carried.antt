-- What a call that is carried out answers and leaves. Assumes nothing.
use Rattle.std.specs.Prelude.{◌≡◌, ℕ, List, [], length, Some, None, Ok, Err, Option, Result}
use Rattle.terms.specs.declared.refusal.Refusal.{Refusal}
use Rattle.ground.specs.Meanings.{Meaning}
use Rattle.method.specs.Calls.{set_cost, move_to, stretch_to, search_for, route_into, sum_over}
use Rattle.method.specs.Pasts.{Event, called, turned_away}
use Rattle.plan.specs.Answers.{heard, refusal_in}
use Rattle.plan.specs.Asked.{ListKept, RouteTurnedAway}
use Rattle.plan.specs.Declines.{begin_with, begin_declines, set_declines, move_declines, stretch_declines, search_declines, route_declines, sum_declines}
use Rattle.plan.specs.Stands.{Stand}
use Rattle.plan.specs.declared.answer.Answer.{Answer}
use Rattle.plan.specs.declared.answer.Answer.TheVariants.{Done}
use Rattle.planner.specs.Leads.{Led}
use Rattle.terms.specs.declared.call.Call.{Call}
use denote.Ref.{Bor}
use Rattle.terms.specs.declared.call.Call.TheVariants.{Begin, Set, Move, Stretch, Search, Route, Sum}

-- a call is refused exactly as defined, whatever the plan and the tables hold; of Route's refusals that is said where the tables' entries do not decide
abbrev pub Declined : Meaning → Call (Bor (List ℕ)) → Stand → List ℕ → Result Answer Refusal → Type 0
Declined m (Begin here landing slack) stand list r = refusal_in r ≡ begin_declines m here landing slack (length stand.costs) (length stand.places) (length stand.queue)
Declined m (Set arc cost) stand list r = refusal_in r ≡ set_declines stand.header m arc cost (length stand.costs) (length stand.places)
Declined m (Move place) stand list r = refusal_in r ≡ move_declines stand.header place
Declined m (Stretch slack) stand list r = refusal_in r ≡ stretch_declines stand.header m slack
Declined m (Search turns) stand list r = refusal_in r ≡ search_declines stand.header m turns (length stand.costs) (length stand.places) (length stand.queue)
Declined m Route stand list r = RouteTurnedAway (route_declines stand.header m (length list) (length stand.costs) (length stand.places)) r
Declined m (Sum arcs) stand list r = refusal_in r ≡ sum_declines stand.header arcs.now (length stand.costs)

-- a Route writes no further than its arcs, and no other call writes into the list
abbrev pub ListLeft : Call (Bor (List ℕ)) → Result Answer Refusal → List ℕ → List ℕ → Type 0
ListLeft (Begin here landing slack) r list list' = list' ≡ list
ListLeft (Set arc cost) r list list' = list' ≡ list
ListLeft (Move place) r list list' = list' ≡ list
ListLeft (Stretch slack) r list list' = list' ≡ list
ListLeft (Search turns) r list list' = list' ≡ list
ListLeft Route r list list' = ListKept r list list'
ListLeft (Sum arcs) r list list' = list' ≡ list

-- an accepted Begin leaves a plan that the empty past leads to
abbrev pub Begins : Meaning → Call (Bor (List ℕ)) → Result Answer Refusal → Stand → Type 0
Begins m (Begin here landing slack) (Ok answer) after = (answer ≡ Done) × Led m (begin_with here landing slack) [] after
Begins m (Begin here landing slack) (Err refusal) after = Unit {0}
Begins m (Set arc cost) r after = Unit {0}
Begins m (Move place) r after = Unit {0}
Begins m (Stretch slack) r after = Unit {0}
Begins m (Search turns) r after = Unit {0}
Begins m Route r after = Unit {0}
Begins m (Sum arcs) r after = Unit {0}

-- what a Begin is to the past: none of its events if it was accepted, since another past starts with it
abbrev pub beginning : Result Answer Refusal → Option Event
beginning (Ok answer) = None
beginning (Err refusal) = Some (turned_away refusal)

-- what a call is to the past, by its answer and the list that it left, which only Route wrote into
abbrev pub event_of : Call (Bor (List ℕ)) → Result Answer Refusal → List ℕ → Option Event
event_of (Begin here landing slack) r list = beginning r
event_of (Set arc cost) r list = Some (called (set_cost arc cost) (heard r []))
event_of (Move place) r list = Some (called (move_to place) (heard r []))
event_of (Stretch slack) r list = Some (called (stretch_to slack) (heard r []))
event_of (Search turns) r list = Some (called (search_for turns) (heard r []))
event_of Route r list = Some (called (route_into (length list)) (heard r list))
event_of (Sum arcs) r list = Some (called (sum_over arcs.now) (heard r []))
