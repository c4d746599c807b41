-- The route promise, for every past of a plan. Assumes nothing.
use Rattle.std.specs.Prelude.{◌≡◌, ℕ, ◌*◌, ◌<◌, ◌≤◌, true, false, ◌⊎◌, List, [], ◌∷◌, ◌++◌, length, ◌≢◌}
use Rattle.std.specs.List.{AllByRecursion}
use Rattle.terms.specs.Amounts.{far}
use Rattle.terms.specs.declared.refusal.Refusal.TheVariants.{NoWay, ListShort}
use Rattle.ground.specs.Meanings.{Meaning, Lawful}
use Rattle.ground.specs.Chains.{Chain, passes}
use Rattle.method.specs.Calls.{search_for, route_into, Answer, settles, routes, refuses, capped_sum}
use Rattle.method.specs.Pasts.{Begin, Accepted, Past, called, Told, accepted, here_in, slack_in, cost_in, settled_in, alters, turns_in}

-- no number comes twice
abbrev pub Once : List ℕ → Type 0
Once [] = Unit {0}
Once (p ∷ ps) = AllByRecursion (λ q. q ≢ p) ps × Once ps

module _ (m : Meaning) (b : Begin) (past : Past) where
  -- open arcs, one after the other, from here to the landing
  abbrev pub OpenChain : List ℕ → Type 0
  OpenChain js = Chain m (here_in b past) js b.landing × AllByRecursion (λ j. cost_in m past j < far) js

  -- what a chain costs
  abbrev pub chain_sum : List ℕ → ℕ
  chain_sum js = capped_sum (cost_in m past) js

  -- the route that the driver is shown: an open chain that passes no place twice and keeps the slack against every open chain
  pub record GoodRoute (js : List ℕ) : Type 0 where
    pub open_chain : OpenChain js
    pub once : Once (passes m (here_in b past) js)
    pub slack_kept : (other : List ℕ) → OpenChain other → 16 * chain_sum js ≤ slack_in b past * chain_sum other

  -- a. Route says No way, or there is a good route, which it shows with its sum if the list is long enough
  abbrev pub KeepsSlack : ℕ → Answer → Type 0
  KeepsSlack entries answer =
      (answer ≡ refuses NoWay) ⊎ ((js : List ℕ) × GoodRoute js × (length js ≤ entries → answer ≡ routes js (chain_sum js)) × (entries < length js → answer ≡ refuses ListShort))

  -- b. Route says No way exactly when there is no open chain
  abbrev pub NoWayIsNoWay : Answer → Type 0
  NoWayIsNoWay answer = (answer ≡ refuses NoWay → (js : List ℕ) → OpenChain js → ⊥) × (((js : List ℕ) → OpenChain js → ⊥) → answer ≡ refuses NoWay)

-- for every past of a plan on this ground
pub record RoutePromise (m : Meaning) : Type 0 where
  pub keeps_slack : (b : Begin) → Accepted m b → (past : Past) (entries : ℕ) (answer : Answer) → Told m b (called (route_into entries) answer ∷ past) → settled_in past ≡ true → KeepsSlack m b past entries answer
  pub no_way : (b : Begin) → Accepted m b → (past : Past) (entries : ℕ) (answer : Answer) → Told m b (called (route_into entries) answer ∷ past) → settled_in past ≡ true → NoWayIsNoWay m b past answer
  -- c. over any stretch of the past in which nothing altered the plan, the turns answered add up to at most twice the places
  pub few_turns : (b : Begin) → Accepted m b → (newer stretch older : Past) → Told m b (newer ++ (stretch ++ older)) → AllByRecursion (λ e. alters e ≡ false) stretch → turns_in stretch ≤ 2 * m.places
  -- and an accepted Search given at least that many turns says Settled
  pub settles_in_time : (b : Begin) → Accepted m b → (past : Past) (turns : ℕ) (answer : Answer) → Told m b (called (search_for turns) answer ∷ past) → 2 * m.places ≤ turns → accepted answer ≡ true → (made : ℕ) × (count : ℕ) × (answer ≡ settles made count)

-- on every lawful ground
abbrev pub RoutePromiseHolds : Type 0
RoutePromiseHolds = (m : Meaning) → Lawful m → RoutePromise m
