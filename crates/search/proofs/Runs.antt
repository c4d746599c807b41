-- A run that is under way, turn by turn. Assumes nothing.
use Rattle.std.proofs.Common.{◌≡◌, ℕ, zero, suc, ◌+◌, ◌-◌, ◌<◌, ◌≤◌, Bool, true, false, not, List, is_some, Some, None, Option, sym, refl, ap, ◌∙◌, subst, arith}
use Rattle.std.proofs.lemmas.Bool.{cond-true, cond-false, true≢false, false≢true}
use Rattle.ground.specs.Meanings.{Meaning}
use Rattle.method.specs.States.{State}
use Rattle.method.specs.Turns.{ended, turn, turn_taken, run}
use Rattle.queue.specs.declared.entry.Entry.{Entry}
use Rattle.queue.specs.declared.key.Key.{Key}
use Rattle.search.specs.declared.aim.Aim.{Aim}
use Rattle.search.specs.declared.place.Place.{Place}
use Rattle.search.specs.declared.made.Made.{Made}
use Rattle.search.specs.Steps.{Due, InStep, TurnMade, RunMade}
use Rattle.search.specs.Tables.{Shows}

-- whether nothing is due is whether the end test holds
pub none_is_ended : (m : Meaning) (s : State) (r : Option ℕ) (none : Bool) → is_some r ≡ not none → Due m s r → none ≡ ended m s
none_is_ended m s None true e d = sym d
none_is_ended m s None false e d = absurd (false≢true e)
none_is_ended m s (Some p) true e d = absurd (true≢false e)
none_is_ended m s (Some p) false e d = sym d.0

module _ (m : Meaning) where
  run_ended : (k : ℕ) (s : State) → ended m s ≡ true → run m k s ≡ s
  unfolding run
  run_ended zero s e = refl
  run_ended (suc k) s e = cond-true (ended m s) s _ e

  run_on : (k p : ℕ) (s : State) → ended m s ≡ false → turn m s ≡ turn_taken m s p → run m (suc k) s ≡ run m k (turn_taken m s p)
  unfolding run
  run_on k p s e t = cond-false (ended m s) s _ e ∙ ap (run m k) t

  run_none : (s : State) → run m 0 s ≡ s
  unfolding run
  run_none s = refl

  count_more : (s : State) (p : ℕ) → (turn_taken m s p).count ≡ s.count + 1
  unfolding turn_taken
  count_more s p = refl

module _ (m : Meaning) (aim : Aim) (costs : List ℕ) (turns : ℕ) (places : List Place) (es : List (Entry Key)) where
  -- the state that so many turns led to: the tables show it, and the run goes on from it
  pub record Reached (made : ℕ) (places' : List Place) (s : State) : Type 0 where
    pub state : State
    pub shows : Shows m state aim costs places'
    pub counted : state.count ≡ s.count + made
    pub goes_on : (left : ℕ) → made + left ≡ turns → run m turns s ≡ run m left state

  pub record UnderWay (made : ℕ) (places' : List Place) (es' : List (Entry Key)) : Type 0 where
    pub few : made ≤ turns
    pub in_step : InStep m aim costs places es → InStep m aim costs places' es'
    pub reaches : InStep m aim costs places es → (s : State) → Shows m s aim costs places → Reached made places' s

  module _ (made : ℕ) (places' : List Place) (es' es₁ : List (Entry Key)) (same : es₁ ≡ es') (u : UnderWay made places' es') where
    -- the queue was asked, and is as it was
    in_step₁ : InStep m aim costs places es → InStep m aim costs places' es₁
    in_step₁ st = subst (λ (z : List (Entry Key)). InStep m aim costs places' z) (sym same) (u.in_step st)

    pub one_turn_more : (p : ℕ) (places'' : List Place) (es'' : List (Entry Key)) → made < turns → (InStep m aim costs places' es' → (s : State) → Shows m s aim costs places' → Due m s (Some p)) →
        TurnMade m aim costs p places' es₁ places'' es'' → UnderWay (made + 1) places'' es''
    one_turn_more p places'' es'' room due t = record {
      few = omega arith;
      in_step = λ st. t.in_step (in_step₁ st);
      reaches = λ st s sh.
          let r = u.reaches st s sh in
          let d = due (u.in_step st) r.state r.shows in
          record {
            state = turn_taken m r.state p;
            shows = t.shows r.state r.shows (u.in_step st).cached;
            counted = count_more m r.state p ∙ omega (arith, r.counted);
            goes_on = λ left e. r.goes_on (suc left) (omega arith) ∙ run_on m left p r.state d.0 d.1;
          };
    }

    stops : (made' : Made) → made'.turns ≡ made → (InStep m aim costs places es → (s : State) (sh : Shows m s aim costs places) (r : Reached made places' s) → (run m turns s ≡ r.state) × (made'.settled ≡ ended m r.state)) → RunMade m aim costs turns places es places' es₁ made'
    stops made' turned end = record {
      in_step = in_step₁;
      shows = λ st s sh. let r = u.reaches st s sh in subst (λ (z : State). Shows m z aim costs places') (sym (end st s sh r).0) r.shows;
      counted = λ st s sh. let r = u.reaches st s sh in ap (λ (z : State). z.count) (end st s sh r).0 ∙ r.counted ∙ ap (λ (z : ℕ). s.count + z) (sym turned);
      ends = λ st s sh. let r = u.reaches st s sh in (end st s sh r).1 ∙ sym (ap (ended m) (end st s sh r).0);
    }

    -- the end test holds before all turns are made
    pub stops_early : (n : ℕ) → n ≡ made → (InStep m aim costs places' es' → (s : State) → Shows m s aim costs places' → Due m s None) → RunMade m aim costs turns places es places' es₁ (record { settled = true; turns = n })
    stops_early n is due = stops (record { settled = true; turns = n }) is (λ st s sh r.
        let e = due (u.in_step st) r.state r.shows in
        (r.goes_on (turns - made) (omega (arith, u.few)) ∙ run_ended m (turns - made) r.state e, sym e))

    -- all turns are made
    pub stops_late : (n : ℕ) → n ≡ made → (settled : Bool) → turns ≤ made → (InStep m aim costs places' es' → (s : State) → Shows m s aim costs places' → settled ≡ ended m s) → RunMade m aim costs turns places es places' es₁ (record { settled = settled; turns = n })
    stops_late n is settled all due = stops (record { settled = settled; turns = n }) is (λ st s sh r.
        (r.goes_on 0 (omega (arith, u.few)) ∙ run_none m r.state, due (u.in_step st) r.state r.shows))
