-- Which past leads to a plan, and what keeping the route promise says of one more event. Assumes nothing.
use Rattle.std.specs.Prelude.{◌∷◌, Some, None, Ok, Err, Option, Result}
use Rattle.terms.specs.declared.refusal.Refusal.{Refusal}
use Rattle.ground.specs.Meanings.{Lawful, Meaning}
use Rattle.method.specs.Pasts.{Accepted, Begin, Event, Past, state_after, Told, turned_away}
use Rattle.planner.specs.PastPromise.{PastPromise}
use Rattle.plan.specs.Stands.{Holds, Stand}
use Rattle.plan.specs.declared.answer.Answer.{Answer}

-- this past, begun so, leads to what the plan and its tables hold
pub record Led (m : Meaning) (b : Begin) (past : Past) (stand : Stand) : Type 0 where
  pub accepted : Accepted m b
  pub told : Told m b past
  pub holds : Holds m (state_after m b past) stand

-- whatever past led here, with this event added it leads on, and it keeps the route promise
abbrev pub KeepsPromise : Meaning → Option Event → Stand → Stand → Type 0
KeepsPromise m None before after = Unit {0}
KeepsPromise m (Some event) before after = (b : Begin) (past : Past) → Led m b past before → Led m b (event ∷ past) after × PastPromise m b (event ∷ past)

-- a declined call, whatever ground and tables it was handed, is a call turned away to every past on any ground, which keeps the route promise
abbrev pub TurnsAway : Result Answer Refusal → Stand → Stand → Type 0
TurnsAway (Ok answer) before after = Unit {0}
TurnsAway (Err refusal) before after = (m : Meaning) → Lawful m → KeepsPromise m (Some (turned_away refusal)) before after
