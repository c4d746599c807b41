-- The route promise, for every past. Assumes nothing.
use Rattle.std.proofs.Common.{◌≡◌, ℕ, ◌+◌, ◌-◌, ◌*◌, ◌<◌, ◌≤◌, Bool, true, false, cond, ◌⊎◌, List, [], ◌∷◌, ◌++◌, length, Some, None, Option, sym, refl, ap, ◌∙◌, subst, inl, inr, arith}
use Rattle.std.specs.List.{AllByRecursion}
use Rattle.std.proofs.lemmas.Bool.{cases_Bool, cases_eq, cases_lt, cond-true, cond-false, eq-eqb, ne_eqb, le-leb, lt-leb, true≢false, false≢true}
use Rattle.terms.specs.Amounts.{far}
use Rattle.terms.specs.declared.refusal.Refusal.{Refusal}
use Rattle.terms.specs.declared.refusal.Refusal.TheVariants.{NoWay, ListShort}
use Rattle.ground.specs.Meanings.{Meaning, Lawful}
use Rattle.ground.specs.Chains.{Chain, passes}
use Rattle.method.specs.States.{State, Phase, changed, under_way, settled, is_changed, is_settled}
use Rattle.method.specs.Turns.{ended}
use Rattle.method.specs.Calls.{set_cost, move_to, stretch_to, search_for, route_into, sum_over, Answer, done, settles, routes, refuses, unless, set_refusal, move_refusal, stretch_refusal, sum_refusal, route_refusal, route_of, capped_sum, cost_set, moved, stretched, emptied, start, searched, verdict, outcome}
use Rattle.method.specs.Pasts.{Begin, Accepted, Event, called, turned_away, Past, next, Right, state_after, Told, accepted, here_in, slack_in, cost_in, settled_in, alters, turns_said, turns_of, turns_in}
use Rattle.method.specs.Promise.{Once, OpenChain, GoodRoute, KeepsSlack, NoWayIsNoWay, RoutePromiseHolds}
use Rattle.method.proofs.Running.{Sound, End, ended_end, Ran, weightless_ended}
use Rattle.method.proofs.Ending.{route_arrives, route_slack, no_way_none}
use Rattle.method.proofs.Reaching.{Reached, reached, searched_ran}

not_changed : (phase : Phase) → is_settled phase ≡ true → is_changed phase ≡ false
not_changed changed e = absurd (false≢true e)
not_changed under_way e = refl
not_changed settled e = refl

module _ (m : Meaning) (law : Lawful m) (b : Begin) (past : Past) (s : State) (r : Reached m b past s) where
  costs : s.cost ≡ cost_in m past
  costs = λ i j. r.cost_is j i

  to_past : (js : List ℕ) → Chain m s.here js s.landing → AllByRecursion (λ j. s.cost j < far) js → OpenChain m b past js
  to_past js chain o = (
    subst (λ h. Chain m h js b.landing) r.here_is (subst (λ l. Chain m s.here js l) r.landing_is chain),
    subst (λ c. AllByRecursion (λ j. c j < far) js) costs o,
  )

  from_past : (js : List ℕ) → OpenChain m b past js → Chain m s.here js s.landing × AllByRecursion (λ j. s.cost j < far) js
  from_past js o = (
    subst (λ h. Chain m h js s.landing) (sym r.here_is) (subst (λ l. Chain m (here_in b past) js l) (sym r.landing_is) o.0),
    subst (λ c. AllByRecursion (λ j. c j < far) js) (sym costs) o.1,
  )

  module _ (was_settled : settled_in past ≡ true) where
    phase_settled : is_settled s.phase ≡ true
    phase_settled = r.settled_is ∙ was_settled

    sound : Sound m s
    sound = r.in_pass (not_changed s.phase phase_settled)

    end : End m s
    end = ended_end m s (r.at_end phase_settled)

    good : s.g s.here < far → GoodRoute m b past (route_of m s)
    good low =
        let arrives = route_arrives m law s sound end low in
        record {
          open_chain = to_past (route_of m s) arrives.chain arrives.open_arcs;
          once = subst (λ h. Once (passes m h (route_of m s))) r.here_is arrives.once;
          slack_kept = λ other o.
              subst (λ c. 16 * capped_sum c (route_of m s) ≤ slack_in b past * capped_sum c other) costs
              (subst (λ e. 16 * capped_sum s.cost (route_of m s) ≤ e * capped_sum s.cost other) r.slack_is
              (route_slack m law s sound end low other (from_past other o).0));
        }

    -- what Route answers, by the value of here and the length of the list
    refuses_no_way : (entries : ℕ) → s.g s.here ≡ far → route_refusal m s entries ≡ Some NoWay
    refuses_no_way entries e = cond-true _ _ _ phase_settled ∙ cond-true _ _ _ (eq-eqb _ _ e)

    shows : (entries : ℕ) → (s.g s.here ≡ far → ⊥) → length (route_of m s) ≤ entries → route_refusal m s entries ≡ None
    shows entries d l = cond-true _ _ _ phase_settled ∙ cond-false _ _ _ (ne_eqb _ _ d) ∙ cond-true _ _ _ (le-leb _ _ l)

    too_short : (entries : ℕ) → (s.g s.here ≡ far → ⊥) → entries < length (route_of m s) → route_refusal m s entries ≡ Some ListShort
    too_short entries d l = cond-true _ _ _ phase_settled ∙ cond-false _ _ _ (ne_eqb _ _ d) ∙ cond-false _ _ _ (lt-leb _ _ l)

    answers : (entries : ℕ) (o : Option Refusal) → route_refusal m s entries ≡ o → (outcome m s (route_into entries)).answer ≡ (unless s o (record { after = s; answer = routes (route_of m s) (capped_sum s.cost (route_of m s)) })).answer
    unfolding outcome
    answers entries o e = ap (λ x. (unless s x (record { after = s; answer = routes (route_of m s) (capped_sum s.cost (route_of m s)) })).answer) e

    module _ (entries : ℕ) (answer : Answer) (right : answer ≡ (outcome m s (route_into entries)).answer) where
      pub slack_kept : KeepsSlack m b past entries answer
      slack_kept = elim (cases_eq (s.g s.here) far) [
        | inl e ↦ inl (right ∙ answers entries (Some NoWay) (refuses_no_way entries e))
        | inr d ↦ inr (
          route_of m s,
          good (omega (arith, r.numbers.value_far s.here)),
          λ l. right ∙ answers entries None (shows entries d l) ∙ ap (λ c. routes (route_of m s) (capped_sum c (route_of m s))) costs,
          λ l. right ∙ answers entries (Some ListShort) (too_short entries d l),
        )
      ]

      pub no_way_is_none : NoWayIsNoWay m b past answer
      no_way_is_none = (
        λ said js o. none said js o (cases_eq (s.g s.here) far),
        λ nothing. elim (cases_eq (s.g s.here) far) [
          | inl e ↦ right ∙ answers entries (Some NoWay) (refuses_no_way entries e)
          | inr d ↦ absurd (nothing (route_of m s) (good (omega (arith, r.numbers.value_far s.here))).open_chain)
        ],
      )
        where
          other : (entries < length (route_of m s)) ⊎ (length (route_of m s) ≤ entries) → (s.g s.here ≡ far → ⊥) → answer ≡ refuses NoWay → ⊥
          other (inl l) d said = let is = right ∙ answers entries (Some ListShort) (too_short entries d l) in let both : ◌≡◌ {A = Answer} (refuses NoWay) (refuses ListShort) = sym said ∙ is in let z : ◌≡◌ {A = ℕ} 0 1 = cc in omega arith
          other (inr l) d said = let is = right ∙ answers entries None (shows entries d l) in let both : ◌≡◌ {A = Answer} (refuses NoWay) (routes (route_of m s) (capped_sum s.cost (route_of m s))) = sym said ∙ is in let z : ◌≡◌ {A = ℕ} 0 1 = cc in omega arith

          none : answer ≡ refuses NoWay → (js : List ℕ) → OpenChain m b past js → (s.g s.here ≡ far) ⊎ (s.g s.here ≡ far → ⊥) → ⊥
          none said js o (inl e) = let back = from_past js o in no_way_none m law s sound end e js back.0 back.1
          none said js o (inr d) = other (cases_lt entries (length (route_of m s))) d said

  -- the turns of a pass so far
  module _ (turns : ℕ) where
    ran : Ran m (start m s) turns (searched m s turns)
    ran = searched_ran m law b past s r turns

    -- twice as many turns as places: the search has ended
    pub in_time : 2 * m.places ≤ turns → ended m (searched m s turns) ≡ true
    in_time enough = go (cases_Bool (ended m (searched m s turns)))
      where
        go : (ended m (searched m s turns) ≡ true) ⊎ (ended m (searched m s turns) ≡ false) → ended m (searched m s turns) ≡ true
        go (inl e) = e
        go (inr e) = weightless_ended m (searched m s turns) (omega (arith, ran.sound.few, ran.all_made e))

    pub says_settled : 2 * m.places ≤ turns → (answer : Answer) → answer ≡ (outcome m s (search_for turns)).answer → (made : ℕ) × (count : ℕ) × (answer ≡ settles made count)
    unfolding outcome
    says_settled enough answer right = (_, _, right ∙ ap (λ e. (verdict m e ((searched m s turns).count - (start m s).count) (searched m s turns)).answer) (in_time enough))

-- the turns since Closed was emptied, none while the plan is changed
spent : State → ℕ
spent s = cond (is_changed s.phase) 0 s.count

refused_or_done : (s t : State) (o : Option Refusal) (a : Answer) → a ≡ (unless s o (record { after = t; answer = done })).answer → accepted a ≡ false → ((unless s o (record { after = t; answer = done })).after ≡ s) × (turns_said a ≡ 0)
refused_or_done s t None a e f = absurd (true≢false (sym (ap accepted e) ∙ f))
refused_or_done s t (Some refusal) a e f = (refl, ap turns_said e)

asked : (s : State) (o : Option Refusal) (x a : Answer) → turns_said x ≡ 0 → a ≡ (unless s o (record { after = s; answer = x })).answer → ((unless s o (record { after = s; answer = x })).after ≡ s) × (turns_said a ≡ 0)
asked s None x a z e = (refl, ap turns_said e ∙ z)
asked s (Some refusal) x a z e = (refl, ap turns_said e)

module _ (m : Meaning) (law : Lawful m) (b : Begin) (past : Past) (s : State) (r : Reached m b past s) where
  still : (e : Event) (turns : ℕ) → turns ≤ spent s → (next m s e ≡ s) × (turns_of e ≡ 0) → turns_of e + turns ≤ spent (next m s e)
  still e turns low (same, none) = omega (arith, low, ap spent same)

  spent_search : (k : ℕ) (a : Answer) (turns : ℕ) → a ≡ (outcome m s (search_for k)).answer → turns ≤ spent s → turns_said a + turns ≤ spent (outcome m s (search_for k)).after
  unfolding outcome spent
  spent_search k a turns right low = go (ended m (searched m s k)) right
    where
      ran : Ran m (start m s) k (searched m s k)
      ran = searched_ran m law b past s r k

      before_it : turns ≤ (start m s).count
      before_it = cases (is_changed s.phase) low
        where
          cases : (c : Bool) → turns ≤ cond c 0 s.count → turns ≤ (cond c (emptied m s) s).count
          cases true l = l
          cases false l = l

      go : (x : Bool) → a ≡ (verdict m x ((searched m s k).count - (start m s).count) (searched m s k)).answer → turns_said a + turns ≤ spent (verdict m x ((searched m s k).count - (start m s).count) (searched m s k)).after
      go true e = omega (arith, ap turns_said e, before_it, ran.more)
      go false e = omega (arith, ap turns_said e, before_it, ran.more)

  spent_more : (e : Event) → Right m s e → alters e ≡ false → (turns : ℕ) → turns ≤ spent s → turns_of e + turns ≤ spent (next m s e)
  unfolding outcome
  spent_more (called (set_cost j c) a) right quiet turns low = still (called (set_cost j c) a) turns low (refused_or_done s (cost_set m s j c) (set_refusal m j c) a right quiet)
  spent_more (called (move_to p) a) right quiet turns low = still (called (move_to p) a) turns low (refused_or_done s (moved m s p) (move_refusal m p) a right quiet)
  spent_more (called (stretch_to k) a) right quiet turns low = still (called (stretch_to k) a) turns low (refused_or_done s (stretched m s k) (stretch_refusal m k) a right quiet)
  spent_more (called (search_for k) a) right quiet turns low = spent_search k a turns right low
  spent_more (called (route_into entries) a) right quiet turns low = still (called (route_into entries) a) turns low (asked s (route_refusal m s entries) _ a refl right)
  spent_more (called (sum_over js) a) right quiet turns low = still (called (sum_over js) a) turns low (asked s (sum_refusal m js) _ a refl right)
  spent_more (turned_away refusal) right quiet turns low = omega (arith, low)

  spent_few : spent s ≤ 2 * m.places
  unfolding spent
  spent_few = go (is_changed s.phase) refl
    where
      go : (c : Bool) → is_changed s.phase ≡ c → cond c 0 s.count ≤ 2 * m.places
      go true e = omega arith
      go false e = omega (arith, (r.in_pass e).few)

told_older : (m : Meaning) (b : Begin) (newer older : Past) → Told m b (newer ++ older) → Told m b older
told_older m b [] older told = told
told_older m b (e ∷ newer) older told = told_older m b newer older told.1

module _ (m : Meaning) (law : Lawful m) (b : Begin) (acc : Accepted m b) where
  stretch_spent : (stretch older : Past) → Told m b (stretch ++ older) → AllByRecursion (λ e. alters e ≡ false) stretch → turns_in stretch ≤ spent (state_after m b (stretch ++ older))
  stretch_spent [] older told quiet = omega arith
  stretch_spent (e ∷ stretch) older told quiet =
      spent_more m law b (stretch ++ older) (state_after m b (stretch ++ older)) (reached m law b acc (stretch ++ older) told.1) e told.0 quiet.0 (turns_in stretch) (stretch_spent stretch older told.1 quiet.1)

  pub stretch_few : (newer stretch older : Past) → Told m b (newer ++ (stretch ++ older)) → AllByRecursion (λ e. alters e ≡ false) stretch → turns_in stretch ≤ 2 * m.places
  stretch_few newer stretch older told quiet =
      let here = told_older m b newer (stretch ++ older) told in
      omega (arith, stretch_spent stretch older here quiet, spent_few m law b (stretch ++ older) (state_after m b (stretch ++ older)) (reached m law b acc (stretch ++ older) here))

-- the turns that a search goes on counting from
pub count_few : (m : Meaning) → Lawful m → (b : Begin) → Accepted m b → (past : Past) → Told m b past → (start m (state_after m b past)).count ≤ 2 * m.places
unfolding spent
count_few m law b acc past told = go (is_changed s.phase) (spent_few m law b past s (reached m law b acc past told))
  where
    s : State
    s = state_after m b past

    go : (c : Bool) → cond c 0 s.count ≤ 2 * m.places → (cond c (emptied m s) s).count ≤ 2 * m.places
    go true l = l
    go false l = l

pub route_promise : RoutePromiseHolds
route_promise m law = record {
  keeps_slack = λ b acc past entries answer told was_settled. slack_kept m law b past (state_after m b past) (reached m law b acc past told.1) was_settled entries answer told.0;
  no_way = λ b acc past entries answer told was_settled. no_way_is_none m law b past (state_after m b past) (reached m law b acc past told.1) was_settled entries answer told.0;
  few_turns = λ b acc newer stretch older told quiet. stretch_few m law b acc newer stretch older told quiet;
  settles_in_time = λ b acc past turns answer told enough ok. says_settled m law b past (state_after m b past) (reached m law b acc past told.1) turns enough answer told.0;
}
