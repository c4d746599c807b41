-- All that a plan is kept in, and the state that it holds. Assumes nothing.
use Rattle.std.specs.Prelude.{◌≡◌, ℕ, ◌*◌, ◌≤◌, false, List, length, take, drop, Some, Ok, Err, Option, Result}
use Rattle.terms.specs.declared.refusal.Refusal.{Refusal}
use Rattle.ground.specs.Meanings.{Meaning}
use Rattle.method.specs.States.{State, is_changed}
use Rattle.method.specs.Calls.{Call, outcome, start, Answer as Said}
use Rattle.queue.specs.declared.entry.Entry.{Entry}
use Rattle.queue.specs.declared.key.Key.{Key}
use Rattle.search.specs.Queued.{Synced}
use Rattle.search.specs.Tables.{Cached, Shows, Within}
use Rattle.search.specs.declared.place.Place.{Place}
use Rattle.plan.specs.declared.answer.Answer.{Answer}
use Rattle.plan.specs.declared.header.Header.{Header}
use Rattle.plan.specs.declared.plan.Plan.{Plan}
use Rattle.plan.specs.Phases.{stage_of}

-- the plan and the tables that are lent to its calls
pub record Stand : Type 0 where
  pub header : Option Header
  pub costs : List ℕ
  pub places : List Place
  pub queue : List (Entry Key)

abbrev pub stand_of : Plan → List ℕ → List Place → List (Entry Key) → Stand
stand_of plan costs places queue = record { header = plan.header; costs = costs; places = places; queue = queue }

-- the header and the tables hold the state: the tables have room for the ground, show the state, store each rhs and, unless the plan was changed
-- since its last search, queue exactly the places that wait
pub record HeldBy (m : Meaning) (s : State) (h : Header) (stand : Stand) : Type 0 where
  pub begun : stand.header ≡ Some h
  pub same_places : h.places ≡ m.places
  pub same_arcs : h.arcs ≡ m.arcs
  pub costs_room : m.arcs ≤ length stand.costs
  pub places_room : m.places ≤ length stand.places
  pub queue_room : m.places ≤ length stand.queue
  pub within : Within m h.aim
  pub shows : Shows m s h.aim stand.costs stand.places
  pub counted : h.count ≡ s.count
  pub phase_is : stage_of h.phase ≡ s.phase
  pub cached : Cached m h.aim stand.costs stand.places
  pub synced : is_changed s.phase ≡ false → Synced m h.aim m.places stand.places (take m.places stand.queue)

abbrev pub Holds : Meaning → State → Stand → Type 0
Holds m s stand = (h : Header) × HeldBy m s h stand

-- the answer and what the call leaves are the defined ones, whatever state it found
abbrev pub CarriesOut : Meaning → Call → Said → Stand → Stand → Type 0
CarriesOut m call said before after = (s : State) → (start m s).count ≤ 2 * m.places → Holds m s before → (said ≡ (outcome m s call).answer) × Holds m (outcome m s call).after after

-- a declined call leaves everything as it was
abbrev pub Unless : Result Answer Refusal → Stand → Stand → Type 0
Unless (Ok answer) before after = Unit {0}
Unless (Err refusal) before after = after ≡ before

-- entries beyond those that the ground needs stay as they were
pub record Beyond (m : Meaning) (before after : Stand) : Type 0 where
  pub costs_beyond : drop m.arcs after.costs ≡ drop m.arcs before.costs
  pub places_beyond : drop m.places after.places ≡ drop m.places before.places
  pub queue_beyond : drop m.places after.queue ≡ drop m.places before.queue
