-- Which refusal each call answers, for any ground and any tables. Assumes nothing.
use Rattle.std.specs.Prelude.{ℕ, cond, ltb, List, [], ◌∷◌, Some, None, Ok, Err, Option, Result, nat_lt}
use Rattle.terms.specs.declared.refusal.Refusal.{Refusal}
use Rattle.terms.specs.declared.refusal.Refusal.TheVariants.{NotBegun, OtherGround, NoSuchPlace, NotSettled, NoSuchArc}
use Rattle.ground.specs.Meanings.{Meaning}
use Rattle.method.specs.Calls.{set_cost, search_for, route_into, sum_over, set_refusal, stretch_refusal}
use Rattle.method.specs.Handed.{Size, same_size, turned_away_by, begin_refusal}
use Rattle.method.specs.Pasts.{Begin}
use Rattle.method.specs.States.{is_settled}
use Rattle.method.specs.Turns.{all_of}
use Rattle.plan.specs.Phases.{stage_of}
use Rattle.plan.specs.declared.header.Header.{Header}

-- a refusal, if there is one, and else the value
abbrev pub or_refused : {X : Type 0} → Option Refusal → X → Result X Refusal
or_refused None x = Ok x
or_refused (Some refusal) x = Err refusal

-- the topmost of two refusals
abbrev pub or_else : Option Refusal → Option Refusal → Option Refusal
or_else None next = next
or_else (Some refusal) next = Some refusal

abbrev pub size_in : Header → Size
size_in h = record { places = h.places; arcs = h.arcs }

-- the size of the ground that the plan began on
abbrev pub size_of : Option Header → Option Size
size_of None = None
size_of (Some h) = Some (size_in h)

abbrev pub ground_size : Meaning → Size
ground_size m = record { places = m.places; arcs = m.arcs }

-- the header of a plan that has begun
abbrev pub begun_as : Option Header → Result Header Refusal
begun_as None = Err NotBegun
begun_as (Some h) = Ok h

-- the header of a plan that has begun on a ground of this size
abbrev pub begun_on : Option Header → Meaning → Result Header Refusal
begun_on None m = Err NotBegun
begun_on (Some h) m = cond (same_size (size_in h) (ground_size m)) (Ok h) (Err OtherGround)

abbrev pub begin_with : ℕ → ℕ → ℕ → Begin
begin_with here landing slack = record { here = here; landing = landing; slack = slack }

-- Begin, handed tables with so many entries
abbrev pub begin_declines : Meaning → ℕ → ℕ → ℕ → ℕ → ℕ → ℕ → Option Refusal
begin_declines m here landing slack costs places queue = begin_refusal m (begin_with here landing slack) ((costs, m.arcs) ∷ (places, m.places) ∷ (queue, m.places) ∷ [])

abbrev pub set_declines : Option Header → Meaning → ℕ → ℕ → ℕ → ℕ → Option Refusal
set_declines h m arc cost costs places = or_else (turned_away_by (size_of h) (ground_size m) ((costs, m.arcs) ∷ (places, m.places) ∷ []) (set_cost arc cost)) (set_refusal m arc cost)

-- Move and Stretch are handed no ground and no tables
abbrev pub no_such_place : ℕ → ℕ → Option Refusal
no_such_place places p = cond (nat_lt p places) None (Some NoSuchPlace)

abbrev pub move_declines : Option Header → ℕ → Option Refusal
move_declines None p = Some NotBegun
move_declines (Some h) p = no_such_place h.places p

abbrev pub stretch_declines : Option Header → Meaning → ℕ → Option Refusal
stretch_declines None m e = Some NotBegun
stretch_declines (Some h) m e = stretch_refusal m e

abbrev pub search_declines : Option Header → Meaning → ℕ → ℕ → ℕ → ℕ → Option Refusal
search_declines h m turns costs places queue = turned_away_by (size_of h) (ground_size m) ((costs, m.arcs) ∷ (places, m.places) ∷ (queue, m.places) ∷ []) (search_for turns)

abbrev pub not_settled : Option Header → Option Refusal
not_settled None = Some NotBegun
not_settled (Some h) = cond (is_settled (stage_of h.phase)) None (Some NotSettled)

-- Route, as far as the tables' entries do not matter
abbrev pub route_declines : Option Header → Meaning → ℕ → ℕ → ℕ → Option Refusal
route_declines h m list costs places = or_else (turned_away_by (size_of h) (ground_size m) ((costs, m.arcs) ∷ (places, m.places) ∷ []) (route_into list)) (not_settled h)

abbrev pub no_such_arc : ℕ → List ℕ → Option Refusal
no_such_arc arcs js = cond (all_of (λ j. ltb j arcs) js) None (Some NoSuchArc)

abbrev pub sum_declines : Option Header → List ℕ → ℕ → Option Refusal
sum_declines None js costs = Some NotBegun
sum_declines (Some h) js costs = or_else (turned_away_by (Some (size_in h)) (size_in h) ((costs, h.arcs) ∷ []) (sum_over js)) (no_such_arc h.arcs js)
