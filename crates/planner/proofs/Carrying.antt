-- One call more: a call that does as it is defined keeps the route promise, whatever past led to it.
use Rattle.std.proofs.Common.{◌≡◌, ℕ, List, ◌∷◌, Some, None, Ok, Err, Result, sym, refl, ap, subst}
use Rattle.terms.specs.declared.refusal.Refusal.{Refusal}
use Rattle.ground.specs.Meanings.{Meaning, Lawful}
use Rattle.method.proofs.Promised.{count_few}
use Rattle.planner.proofs.Keeping.{past_promise}
use Rattle.method.specs.Calls.{Call as Asked, Answer as Said}
use Rattle.method.specs.Pasts.{Accepted, begun, called, turned_away, state_after}
use Rattle.plan.specs.Answers.{refusal_in}
use Rattle.plan.specs.Declines.{begin_with}
use Rattle.plan.specs.Stands.{Beyond, CarriesOut, Holds, Stand, Unless}
use Rattle.plan.specs.declared.answer.Answer.{Answer}
use Rattle.plan.specs.declared.answer.Answer.TheVariants.{Done}
use Rattle.planner.specs.Carried.{beginning, Begins, Declined, event_of, ListLeft}
use Rattle.planner.specs.Leads.{KeepsPromise, Led, TurnsAway}
use Rattle.terms.specs.declared.call.Call.{Call}
use denote.Ref.{Bor}
use Rattle.terms.specs.declared.call.Call.TheVariants.{Begin}

module _ (m : Meaning) (law : Lawful m) where
  pub keeps : (call : Asked) (said : Said) (before after : Stand) → CarriesOut m call said before after → KeepsPromise m (Some (called call said)) before after
  keeps call said before after out = λ b past led.
      let made = out (state_after m b past) (count_few m law b led.accepted past led.told) led.holds in
      let on : Led m b (called call said ∷ past) after = record { accepted = led.accepted; told = (made.0, led.told); holds = made.1 } in
      (on, past_promise m law b led.accepted (called call said ∷ past) on.told)

  -- a call that was declined changes nothing
  keeps_away : (refusal : Refusal) (before after : Stand) → after ≡ before → KeepsPromise m (Some (turned_away refusal)) before after
  keeps_away refusal before after kept = λ b past led.
      let on : Led m b (turned_away refusal ∷ past) after = record { accepted = led.accepted; told = (tt, led.told); holds = subst (Holds m (state_after m b past)) (sym kept) led.holds } in
      (on, past_promise m law b led.accepted (turned_away refusal ∷ past) on.told)

  pub keeps_declined : (r : Result Answer Refusal) (before after : Stand) → Unless r before after → KeepsPromise m (beginning r) before after
  keeps_declined (Ok answer) before after kept = tt
  keeps_declined (Err refusal) before after kept = keeps_away refusal before after kept

pub turns_away : (r : Result Answer Refusal) (before after : Stand) → Unless r before after → TurnsAway r before after
turns_away (Ok answer) before after kept = tt
turns_away (Err refusal) before after kept = λ m law. keeps_away m law refusal before after kept

pub begins : (m : Meaning) (here landing slack : ℕ) (r : Result Answer Refusal) (after : Stand) → (refusal_in r ≡ None → (r ≡ Ok Done) × Accepted m (begin_with here landing slack) × Holds m (begun m (begin_with here landing slack)) after) → Begins m (Begin here landing slack) r after
begins m here landing slack (Ok answer) after state =
    let made = state refl in
    let said : answer ≡ Done = cc made.0 in
    (said, record { accepted = made.1; told = tt; holds = made.2 })
begins m here landing slack (Err refusal) after state = tt

-- a declined call that leaves a part of what the plan is kept in leaves the whole, if it is not lent the rest
pub over : (f : Stand → Stand) (r : Result Answer Refusal) (before after : Stand) → Unless r before after → Unless r (f before) (f after)
over f (Ok answer) before after kept = tt
over f (Err refusal) before after kept = ap f kept

pub unless_same : (r : Result Answer Refusal) (stand : Stand) → Unless r stand stand
unless_same (Ok answer) stand = tt
unless_same (Err refusal) stand = refl

-- all that is promised of a call
pub record Carried (m : Meaning) (call : Call (Bor (List ℕ))) (before : Stand) (list : List ℕ) (r : Result Answer Refusal) (after : Stand) (list' : List ℕ) : Type 0 where
  pub declined : Declined m call before list r
  pub kept : Unless r before after
  pub listed : ListLeft call r list list'
  pub beyond : Beyond m before after
  pub began : Begins m call r after
  pub law : KeepsPromise m (event_of call r list') before after

pub carried_as : {m : Meaning} {call same : Call (Bor (List ℕ))} {before after : Stand} {list list' : List ℕ} {r : Result Answer Refusal} → call ≡ same → Carried m same before list r after list' → Carried m call before list r after list'
carried_as {m} {call} {same} {before} {after} {list} {list'} {r} is made = subst (λ (x : Call (Bor (List ℕ))). Carried m x before list r after list') (sym is) made
