-- A run of turns keeps a plan sound, and ends within twice the places. Assumes nothing.
use Rattle.std.proofs.Common.{◌≡◌, ℕ, zero, suc, ◌+◌, ◌*◌, ◌<◌, ◌≤◌, Bool, true, false, cond, not, ◌&&◌, ◌||◌, eqb, ◌⊎◌, List, [], ◌∷◌, Some, None, Option, sym, refl, ap, ◌∙◌, subst, inl, inr, arith}
use Rattle.std.proofs.lemmas.Bool.{cases_eq, cases_order, cond-true, cond-false, cond_both, eq-eqb, ne_eqb, eqb-true, eqb-false, lt-ltb, le-ltb, or_cases, or_parts, or_left, and_parts, not-true, true≢false}
use Rattle.terms.specs.Amounts.{far}
use Rattle.ground.specs.Meanings.{Meaning, Lawful}
use Rattle.method.specs.States.{State, put}
use Rattle.method.specs.Values.{rhs, over, level, open_places}
use Rattle.method.specs.Keys.{before, key}
use Rattle.method.specs.Turns.{soonest, all_of, is_none, here_after, ended, turn_taken, turn_with, turn, run}
use Rattle.method.proofs.Members.{Member}
use Rattle.method.proofs.Offers.{rhs_far}
use Rattle.method.proofs.Seen.{Standing}
use Rattle.method.proofs.Opens.{Open, open_listed, listed_open, soonest_none, soonest_least}
use Rattle.method.proofs.Moves.{turned}
use Rattle.method.proofs.Passing.{Pass, First, over_turn, under_turn}
use Rattle.method.proofs.Weights.{total, total_none, total_falls}

-- how many turns a place can still have: none once it is closed, one from far, else two
abbrev pub weight : State → ℕ → ℕ
weight s p = cond (s.closed p) 0 (cond (eqb (s.g p) far) 1 2)

-- what holds of a plan in a pass
pub record Sound (m : Meaning) (s : State) : Type 0 where
  pub standing : Standing m s
  pub pass : Pass m s
  pub few : s.count + total (weight s) m.places ≤ 2 * m.places

-- when a search ends
pub data End (m : Meaning) (s : State) : Type 0 where
  nothing_open : ((q : ℕ) → Open m s q → ⊥) → End m s
  here_first : s.g s.here ≡ rhs m s s.here → ((q : ℕ) → Open m s q → (s.g s.here ≡ far → ⊥) × (before (key m s q) (key m s s.here) ≡ false)) → End m s

none_member : (xs : List ℕ) → is_none xs ≡ true → (q : ℕ) → Member q xs → ⊥
none_member [] e q h = h
none_member (x ∷ xs) e q h = true≢false (sym e)

member_none : (xs : List ℕ) → ((q : ℕ) → Member q xs → ⊥) → is_none xs ≡ true
member_none [] h = refl
member_none (x ∷ xs) h = absurd (h x (inl refl))

all_member : (test : ℕ → Bool) (xs : List ℕ) → all_of test xs ≡ true → (q : ℕ) → Member q xs → test q ≡ true
all_member test [] e q h = absurd h
all_member test (x ∷ xs) e q (inl same) = ap test same ∙ (and_parts _ _ e).0
all_member test (x ∷ xs) e q (inr h) = all_member test xs (and_parts (test x) _ e).1 q h

module _ (m : Meaning) (s : State) where
  pub ended_end : ended m s ≡ true → End m s
  unfolding ended
  ended_end e = go (or_cases _ _ e)
    where
      first : (q : ℕ) → not (here_after m s q) ≡ true → (s.g s.here ≡ far → ⊥) × (before (key m s q) (key m s s.here) ≡ false)
      first q h = let parts = or_parts (eqb (s.g s.here) far) (before (key m s q) (key m s s.here)) (not-true _ h) in (eqb-false _ _ parts.0, parts.1)

      go : (is_none (open_places m s) ≡ true) ⊎ ((level m s s.here && all_of (λ p. not (here_after m s p)) (open_places m s)) ≡ true) → End m s
      go (inl none) = nothing_open (λ q o. none_member (open_places m s) none q (open_listed m s q o))
      go (inr both) =
          let parts = and_parts (level m s s.here) (all_of (λ p. not (here_after m s p)) (open_places m s)) both in
          here_first (eqb-true _ _ parts.0) (λ q o. first q (all_member (λ p. not (here_after m s p)) (open_places m s) parts.1 q (open_listed m s q o)))

  pub none_ended : ((q : ℕ) → Open m s q → ⊥) → ended m s ≡ true
  unfolding ended
  none_ended h = or_left _ _ (member_none (open_places m s) (λ q k. h q (listed_open m s q k)))

  -- while the search goes on, some place has the turn
  pub has_turn : ended m s ≡ false → (p : ℕ) × (soonest (key m s) (open_places m s) ≡ Some p) × First m s p
  has_turn e = go (soonest (key m s) (open_places m s)) refl
    where
      go : (r : Option ℕ) → soonest (key m s) (open_places m s) ≡ r → (p : ℕ) × (soonest (key m s) (open_places m s) ≡ Some p) × First m s p
      go None n = absurd (true≢false (sym (none_ended (λ q o. soonest_none (key m s) (open_places m s) n q (open_listed m s q o))) ∙ e))
      go (Some p) n =
          let so = soonest_least (key m s) (open_places m s) p n in
          (p, n, record { stands_open = listed_open m s p so.among; least = λ q o. so.least q (open_listed m s q o) })

put_same : {X : Type 0} (f : ℕ → X) (p : ℕ) (x : X) → put f p x p ≡ x
put_same f p x = cond-true _ _ _ (eq-eqb p p refl)

put_other : {X : Type 0} (f : ℕ → X) (p : ℕ) (x : X) (q : ℕ) → (q ≡ p → ⊥) → put f p x q ≡ f q
put_other f p x q d = cond-false _ _ _ (ne_eqb q p d)

-- what a turn leaves as it was
pub record Alike (s t : State) : Type 0 where
  pub costs : t.cost ≡ s.cost
  pub heres : t.here ≡ s.here
  pub landings : t.landing ≡ s.landing
  pub slacks : t.slack ≡ s.slack
  pub phases : t.phase ≡ s.phase

module _ (m : Meaning) (law : Lawful m) (s : State) (sound : Sound m s) (p : ℕ) (first : First m s p) where
  after : State
  after = turned s (put s.g p (cond (over m s p) (rhs m s p) far)) (put s.closed p (over m s p || s.closed p))

  others : (q : ℕ) → (q ≡ p → ⊥) → put s.g p (cond (over m s p) (rhs m s p) far) q ≡ s.g q
  others q d = put_other s.g p _ q d

  rest : (q : ℕ) → (q ≡ p → ⊥) → put s.closed p (over m s p || s.closed p) q ≡ s.closed q
  rest q d = put_other s.closed p _ q d

  -- the two ways of a turn: the value taken, and whether the place is closed then
  pub data Way : Type 0 where
    was_over : rhs m s p < s.g p → put s.g p (cond (over m s p) (rhs m s p) far) p ≡ rhs m s p → put s.closed p (over m s p || s.closed p) p ≡ true → Way
    was_under : s.g p < rhs m s p → put s.g p (cond (over m s p) (rhs m s p) far) p ≡ far → put s.closed p (over m s p || s.closed p) p ≡ false → Way

  way : Way
  way = go (cases_order (s.g p) (rhs m s p))
    where
      go : (s.g p ≡ rhs m s p) ⊎ ((s.g p < rhs m s p) ⊎ (rhs m s p < s.g p)) → Way
      go (inl e) = absurd (first.stands_open.not_level e)
      go (inr (inl low)) =
          let no_over : over m s p ≡ false = le-ltb _ _ (omega arith) in
          was_under low (put_same s.g p _ ∙ cond-false {A = ℕ} _ _ _ no_over) (put_same s.closed p _ ∙ ap (λ b. b || s.closed p) no_over ∙ first.stands_open.free)
      go (inr (inr high)) =
          let is_over : over m s p ≡ true = lt-ltb _ _ high in
          was_over high (put_same s.g p _ ∙ cond-true {A = ℕ} _ _ _ is_over) (put_same s.closed p _ ∙ ap (λ b. b || s.closed p) is_over)

  weight_there : weight s p ≡ cond (eqb (s.g p) far) 1 2
  weight_there = cond-false {A = ℕ} _ _ _ first.stands_open.free

  pub turn_sound : Sound m (turn_taken m s p)
  unfolding turn_taken after
  turn_sound = go way
    where
      same_weight : (q : ℕ) → (q ≡ p → ⊥) → weight after q ≡ weight s q
      same_weight q d = rw (rest q d, others q d) refl

      standing_after : (x : ℕ) → put s.g p (cond (over m s p) (rhs m s p) far) p ≡ x → x ≤ far → Standing m after
      standing_after x here low = record {
        here_within = sound.standing.here_within;
        landing_within = sound.standing.landing_within;
        slack_low = sound.standing.slack_low;
        slack_high = sound.standing.slack_high;
        cost_low = sound.standing.cost_low;
        cost_high = sound.standing.cost_high;
        cost_far = sound.standing.cost_far;
        value_far = λ q. elim (cases_eq q p) [
          | inl e ↦ omega (arith, ap (put s.g p (cond (over m s p) (rhs m s p) far)) e, here)
          | inr d ↦ omega (arith, others q d, sound.standing.value_far q)
        ];
      }

      some : 1 ≤ cond (eqb (s.g p) far) 1 2
      some = cond_both (eqb (s.g p) far) 1 2 (λ n. 1 ≤ n) (λ _. omega arith) (λ _. omega arith)

      go : Way → Sound m after
      go (was_over high here shut) = let gone : weight after p ≡ 0 = cond-true {A = ℕ} _ _ _ shut in record {
        standing = standing_after (rhs m s p) here (rhs_far m s p);
        pass = over_turn m law s sound.standing sound.pass p first _ _ others rest high here shut;
        few = omega (arith, sound.few, total_falls (weight s) (weight after) m.places p first.stands_open.place_in same_weight (omega (arith, gone, weight_there, some)));
      }
      go (was_under low here free) = let one : weight after p ≡ 1 = cond-false {A = ℕ} _ _ _ free ∙ cond-true {A = ℕ} _ _ _ (eq-eqb _ _ here) in let two : ◌≡◌ {A = ℕ} (cond (eqb (s.g p) far) 1 2) 2 = cond-false {A = ℕ} _ _ _ (ne_eqb (s.g p) far (λ e. omega (arith, rhs_far m s p))) in record {
        standing = standing_after far here (omega arith);
        pass = under_turn m law s sound.standing sound.pass p first _ _ others rest low here free;
        few = omega (arith, sound.few, total_falls (weight s) (weight after) m.places p first.stands_open.place_in same_weight (omega (arith, one, weight_there, two)));
      }

  pub turn_alike : Alike s (turn_taken m s p)
  unfolding turn_taken
  turn_alike = record { costs = refl; heres = refl; landings = refl; slacks = refl; phases = refl }

  pub turn_count : (turn_taken m s p).count ≡ s.count + 1
  unfolding turn_taken
  turn_count = refl

alike_trans : {s t u : State} → Alike s t → Alike t u → Alike s u
alike_trans a b = record { costs = b.costs ∙ a.costs; heres = b.heres ∙ a.heres; landings = b.landings ∙ a.landings; slacks = b.slacks ∙ a.slacks; phases = b.phases ∙ a.phases }

-- where so many turns led: the search ended, or all of them were made
pub record Ran (m : Meaning) (s : State) (turns : ℕ) (t : State) : Type 0 where
  pub sound : Sound m t
  pub alike : Alike s t
  pub more : s.count ≤ t.count
  pub all_made : ended m t ≡ false → t.count ≡ s.count + turns
  -- no more turns than were given
  pub not_more : t.count ≤ s.count + turns

pub run_ran : (m : Meaning) → Lawful m → (turns : ℕ) (s : State) → Sound m s → Ran m s turns (run m turns s)
unfolding run
run_ran m law zero s sound = record { sound = sound; alike = record { costs = refl; heres = refl; landings = refl; slacks = refl; phases = refl }; more = omega arith; all_made = λ _. omega arith; not_more = omega arith }
run_ran m law (suc turns) s sound = go (ended m s) refl (run_ran m law turns)
  where
    stopped : ended m s ≡ true → Ran m s (suc turns) s
    stopped e = record { sound = sound; alike = record { costs = refl; heres = refl; landings = refl; slacks = refl; phases = refl }; more = omega arith; all_made = λ f. absurd (true≢false (sym e ∙ f)); not_more = omega arith }

    further : (p : ℕ) (first : First m s p) → Ran m (turn_taken m s p) turns (run m turns (turn_taken m s p)) → Ran m s (suc turns) (run m turns (turn_taken m s p))
    further p first r =
        let one = turn_count m law s sound p first in
        record { sound = r.sound; alike = alike_trans (turn_alike m law s sound p first) r.alike; more = omega (arith, r.more); all_made = λ f. omega (arith, r.all_made f); not_more = omega (arith, r.not_more) }

    go : (b : Bool) → ended m s ≡ b → ((t : State) → Sound m t → Ran m t turns (run m turns t)) → Ran m s (suc turns) (cond b s (run m turns (turn m s)))
    go true e more = stopped e
    go false e more =
        let has = has_turn m s e in
        subst (λ o. Ran m s (suc turns) (run m turns (turn_with m s o))) (sym has.1) (further has.0 has.2 (more (turn_taken m s has.0) (turn_sound m law s sound has.0 has.2)))

-- a place that has no weight is closed, and a closed place is not open
pub weightless_ended : (m : Meaning) (s : State) → total (weight s) m.places ≡ 0 → ended m s ≡ true
weightless_ended m s e = none_ended m s (λ q o. heavy q o (total_none (weight s) m.places e q o.place_in))
  where
    heavy : (q : ℕ) → Open m s q → weight s q ≡ 0 → ⊥
    heavy q o z = omega (arith, sym (cond-false {A = ℕ} (s.closed q) 0 (cond (eqb (s.g q) far) 1 2) o.free) ∙ z, cond_both (eqb (s.g q) far) 1 2 (λ n. 1 ≤ n) (λ _. omega arith) (λ _. omega arith))
