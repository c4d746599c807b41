-- What Route and Sum leave. Assumes nothing.
use Rattle.std.specs.Prelude.{◌≡◌, ℕ, ◌⊎◌, List, drop, Some, None, Ok, Err, Option, Result}
use Rattle.terms.specs.declared.refusal.Refusal.{Refusal}
use Rattle.terms.specs.declared.refusal.Refusal.TheVariants.{ListShort, NoWay}
use Rattle.plan.specs.declared.answer.Answer.{Answer}
use Rattle.plan.specs.declared.answer.Answer.TheVariants.{Done, Settled, Cut, Route, Sum}

-- a refusal that the tables' entries decide: no way, or a list too short
abbrev pub RouteRefusal : Result Answer Refusal → Type 0
RouteRefusal (Ok answer) = Unit {0}
RouteRefusal (Err refusal) = (refusal ≡ NoWay) ⊎ (refusal ≡ ListShort)

-- a refusal that the tables' entries do not decide is the answer; without one, only those that they decide are left
abbrev pub RouteTurnedAway : Option Refusal → Result Answer Refusal → Type 0
RouteTurnedAway None r = RouteRefusal r
RouteTurnedAway (Some refusal) r = r ≡ Err refusal

-- how many entries of the list an answer speaks of
abbrev pub entries_of : Answer → ℕ
entries_of Done = 0
entries_of (Settled turns count) = 0
entries_of (Cut turns count) = 0
entries_of (Route arcs sum) = arcs
entries_of (Sum sum) = 0

-- a declined call leaves the list, and any other leaves the rest of it
abbrev pub ListKept : Result Answer Refusal → List ℕ → List ℕ → Type 0
ListKept (Err refusal) list list' = list' ≡ list
ListKept (Ok answer) list list' = drop (entries_of answer) list' ≡ drop (entries_of answer) list
