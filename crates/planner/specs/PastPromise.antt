-- The route promise of one past. Assumes nothing.
use Rattle.std.specs.Prelude.{◌≡◌, ℕ, ◌*◌, ◌≤◌, true, false, ◌∷◌, ◌++◌}
use Rattle.std.specs.List.{AllByRecursion}
use Rattle.ground.specs.Meanings.{Meaning}
use Rattle.method.specs.Calls.{search_for, route_into, Answer, settles}
use Rattle.method.specs.Pasts.{Begin, Past, called, accepted, settled_in, alters, turns_in}
use Rattle.method.specs.Promise.{KeepsSlack, NoWayIsNoWay}

-- The route promise of one past. A past that goes on keeps it at every call, since it is promised of every past.
pub record PastPromise (m : Meaning) (b : Begin) (past : Past) : Type 0 where
  -- where the latest call is a Route and the plan was settled
  pub keeps_slack : (older : Past) (entries : ℕ) (answer : Answer) → past ≡ called (route_into entries) answer ∷ older → settled_in older ≡ true → KeepsSlack m b older entries answer
  pub no_way : (older : Past) (entries : ℕ) (answer : Answer) → past ≡ called (route_into entries) answer ∷ older → settled_in older ≡ true → NoWayIsNoWay m b older answer
  -- over any stretch of the past in which nothing altered the plan, the turns answered add up to at most twice the places
  pub few_turns : (newer stretch older : Past) → past ≡ newer ++ (stretch ++ older) → AllByRecursion (λ e. alters e ≡ false) stretch → turns_in stretch ≤ 2 * m.places
  -- and an accepted Search given at least that many turns says Settled
  pub settles_in_time : (older : Past) (turns : ℕ) (answer : Answer) → past ≡ called (search_for turns) answer ∷ older → 2 * m.places ≤ turns → accepted answer ≡ true → (made : ℕ) × (count : ℕ) × (answer ≡ settles made count)
