-- What holds of the state that a past leads to, and that it agrees with what can be read off the past. Assumes nothing.
use Rattle.std.proofs.Common.{◌≡◌, ℕ, ◌-◌, ◌<◌, ◌≤◌, Bool, true, false, cond, ◌&&◌, eqb, ltb, leb, ◌⊎◌, [], ◌∷◌, Some, None, Option, unwrap_or, sym, refl, ap, ◌∙◌, subst, inl, inr, arith}
use Rattle.std.proofs.lemmas.Bool.{cases_Bool, cond-true, cond_both, eq-eqb, eqb-true, ltb-true, leb-true, or_cases, and_parts, true≢false, false≢true}
use Rattle.terms.specs.Amounts.{far}
use Rattle.terms.specs.declared.refusal.Refusal.{Refusal}
use Rattle.terms.specs.declared.refusal.Refusal.TheVariants.{NoSuchArc, CostOutside}
use Rattle.ground.specs.Meanings.{Meaning, Lawful}
use Rattle.method.specs.States.{State, Phase, under_way, settled, is_changed, is_settled, put}
use Rattle.method.specs.Values.{rhs, is_open}
use Rattle.method.specs.Keys.{key}
use Rattle.method.specs.Turns.{ended}
use Rattle.method.specs.Calls.{set_cost, move_to, stretch_to, search_for, route_into, sum_over, Answer, done, refuses, unless, standing, set_refusal, move_refusal, stretch_refusal, sum_refusal, route_refusal, cost_set, moved, stretched, emptied, start, in_phase, searched, verdict, outcome}
use Rattle.method.specs.Pasts.{Begin, Accepted, begun, Event, called, turned_away, Past, next, Right, state_after, Told, here_in, slack_in, cost_in, settled_in}
use Rattle.method.proofs.Seen.{Standing}
use Rattle.method.proofs.Weights.{total_most}
use Rattle.method.proofs.Running.{weight, Sound, Alike, Ran, run_ran}

-- neither what holds of a plan nor its end test looks at the phase
pub sound_phase : (m : Meaning) (phase : Phase) (s : State) → Sound m s → Sound m (in_phase m phase s)
unfolding rhs
sound_phase m phase s sound = record {
  standing = record { here_within = sound.standing.here_within; landing_within = sound.standing.landing_within; slack_low = sound.standing.slack_low; slack_high = sound.standing.slack_high; cost_low = sound.standing.cost_low; cost_high = sound.standing.cost_high; cost_far = sound.standing.cost_far; value_far = sound.standing.value_far };
  pass = record { not_under = sound.pass.not_under; floors = sound.pass.floors; good = sound.pass.good };
  few = sound.few;
}

pub ended_phase : (m : Meaning) (phase : Phase) (s : State) → ended m (in_phase m phase s) ≡ ended m s
unfolding ended rhs is_open key
ended_phase m phase s = refl

-- Closed was emptied: nothing of an earlier search matters
pub emptied_sound : (m : Meaning) (s : State) → Standing m s → Sound m (emptied m s)
emptied_sound m s st = record {
  standing = record { here_within = st.here_within; landing_within = st.landing_within; slack_low = st.slack_low; slack_high = st.slack_high; cost_low = st.cost_low; cost_high = st.cost_high; cost_far = st.cost_far; value_far = st.value_far };
  pass = record { not_under = λ c c_in h. absurd (false≢true h); floors = λ c u c_in u_in h low. absurd (false≢true h); good = λ c c_in h js chain. absurd (false≢true h) };
  few = omega (arith, total_most (weight (emptied m s)) m.places (λ p. cond_both (eqb (s.g p) far) 1 2 (λ n. n ≤ 2) (λ _. omega arith) (λ _. omega arith)));
}

pub record Reached (m : Meaning) (b : Begin) (es : Past) (s : State) : Type 0 where
  pub numbers : Standing m s
  pub in_pass : is_changed s.phase ≡ false → Sound m s
  pub at_end : is_settled s.phase ≡ true → ended m s ≡ true
  -- the state agrees with the past
  pub here_is : s.here ≡ here_in b es
  pub landing_is : s.landing ≡ b.landing
  pub slack_is : s.slack ≡ slack_in b es
  pub cost_is : (j : ℕ) → s.cost j ≡ cost_in m es j
  pub settled_is : is_settled s.phase ≡ settled_in es

pub reached_begin : (m : Meaning) → Lawful m → (b : Begin) → Accepted m b → Reached m b [] (begun m b)
reached_begin m law b acc = record {
  numbers = record { here_within = acc.here_within; landing_within = acc.landing_within; slack_low = acc.slack_low; slack_high = acc.slack_high; cost_low = λ j h. omega arith; cost_high = λ j h l. law.least_high j h; cost_far = λ j h. omega (arith, law.least_high j h); value_far = λ p. omega arith };
  in_pass = λ e. absurd (true≢false e);
  at_end = λ e. absurd (false≢true e);
  here_is = refl;
  landing_is = refl;
  slack_is = refl;
  cost_is = λ j. refl;
  settled_is = refl;
}

-- the search starts sound
pub start_sound : (m : Meaning) (b : Begin) (es : Past) (s : State) → Reached m b es s → Sound m (start m s)
start_sound m b es s r = go (is_changed s.phase) refl
  where
    go : (c : Bool) → is_changed s.phase ≡ c → Sound m (cond c (emptied m s) s)
    go true e = emptied_sound m s r.numbers
    go false e = r.in_pass e

start_alike : (m : Meaning) (s : State) → Alike s (start m s)
start_alike m s = go (is_changed s.phase)
  where
    go : (c : Bool) → Alike s (cond c (emptied m s) s)
    go true = record { costs = refl; heres = refl; landings = refl; slacks = refl; phases = refl }
    go false = record { costs = refl; heres = refl; landings = refl; slacks = refl; phases = refl }

cond_none : {X : Type 0} (b : Bool) (x : Option X) (y : X) → cond b x (Some y) ≡ None → (b ≡ true) × (x ≡ None)
cond_none true x y e = (refl, e)
cond_none false x y e = absurd (let z : ◌≡◌ {A = ℕ} 0 1 = cc in omega arith)

cond_only : {X : Type 0} (b : Bool) (y : X) → cond b None (Some y) ≡ None → b ≡ true
cond_only true y e = refl
cond_only false y e = absurd (let z : ◌≡◌ {A = ℕ} 0 1 = cc in omega arith)

module _ (m : Meaning) (law : Lawful m) (b : Begin) (es : Past) (s : State) (r : Reached m b es s) where
  -- a call that is declined, or that only asks, leaves all as it was
  set_reached : (j c : ℕ) (a : Answer) → a ≡ (outcome m s (set_cost j c)).answer → Reached m b (called (set_cost j c) a ∷ es) (outcome m s (set_cost j c)).after
  unfolding outcome
  set_reached j c a e = go (set_refusal m j c) refl e
    where
      allowed : set_refusal m j c ≡ None → (j < m.arcs) × ((c ≡ 0) ⊎ ((m.least j ≤ c) × (c ≤ 10000)))
      allowed n =
          let outer = cond_none (ltb j m.arcs) _ NoSuchArc n in
          (ltb-true _ _ outer.0, range (or_cases (eqb c 0) _ (cond_only _ CostOutside outer.1)))
        where
          range : (eqb c 0 ≡ true) ⊎ ((leb (m.least j) c && leb c 10000) ≡ true) → (c ≡ 0) ⊎ ((m.least j ≤ c) × (c ≤ 10000))
          range (inl z) = inl (eqb-true c 0 z)
          range (inr k) = let both = and_parts (leb (m.least j) c) (leb c 10000) k in inr (leb-true _ _ both.0, leb-true _ _ both.1)

      -- the new cost is lawful
      new : (c ≡ 0) ⊎ ((m.least j ≤ c) × (c ≤ 10000)) → j < m.arcs → (m.least j ≤ standing c) × (standing c < far → standing c ≤ 10000) × (standing c ≤ far)
      new (inl z) j_in = let shut : standing c ≡ far = cond-true {A = ℕ} _ _ _ (eq-eqb c 0 z) in (omega (arith, law.least_high j j_in), λ l. omega arith, omega arith)
      new (inr k) j_in = cond_both (eqb c 0) far c (λ x. (m.least j ≤ x) × (x < far → x ≤ 10000) × (x ≤ far)) (λ t. (omega (arith, law.least_high j j_in), λ l. omega arith, omega arith)) (λ t. (k.0, λ l. k.1, omega (arith, k.1)))

      changed_cost : set_refusal m j c ≡ None → Reached m b (called (set_cost j c) done ∷ es) (cost_set m s j c)
      changed_cost n =
          let ok = allowed n in
          let fresh = new ok.1 ok.0 in
          record {
            numbers = record {
              here_within = r.numbers.here_within;
              landing_within = r.numbers.landing_within;
              slack_low = r.numbers.slack_low;
              slack_high = r.numbers.slack_high;
              cost_low = λ i h. at i (λ x. m.least i ≤ x) (λ same. subst (λ k. m.least k ≤ standing c) (sym same) fresh.0) (r.numbers.cost_low i h);
              cost_high = λ i h. at i (λ x. x < far → x ≤ 10000) (λ same. fresh.1) (r.numbers.cost_high i h);
              cost_far = λ i h. at i (λ x. x ≤ far) (λ same. fresh.2) (r.numbers.cost_far i h);
              value_far = r.numbers.value_far;
            };
            in_pass = λ e. absurd (true≢false e);
            at_end = λ e. absurd (false≢true e);
            here_is = r.here_is;
            landing_is = r.landing_is;
            slack_is = r.slack_is;
            cost_is = λ i. elim (cases_Bool (eqb i j)) [ inl t ↦ rw t refl | inr f ↦ rw f (r.cost_is i) ];
            settled_is = refl;
          }
        where
          at : (i : ℕ) (P : ℕ → Type 0) → (i ≡ j → P (standing c)) → P (s.cost i) → P (put s.cost j (standing c) i)
          at i P yes' no' = cond_both (eqb i j) (standing c) (s.cost i) P (λ t. yes' (eqb-true i j t)) (λ _. no')

      go : (o : Option Refusal) → set_refusal m j c ≡ o → a ≡ (unless s o (record { after = cost_set m s j c; answer = done })).answer → Reached m b (called (set_cost j c) a ∷ es) (unless s o (record { after = cost_set m s j c; answer = done })).after
      go None n e = subst (λ x. Reached m b (called (set_cost j c) x ∷ es) (cost_set m s j c)) (sym e) (changed_cost n)
      go (Some refusal) n e = subst (λ x. Reached m b (called (set_cost j c) x ∷ es) s) (sym e) (record {
        numbers = r.numbers;
        in_pass = r.in_pass;
        at_end = r.at_end;
        here_is = r.here_is;
        landing_is = r.landing_is;
        slack_is = r.slack_is;
        cost_is = λ i. cond_both (eqb i j) None None (λ o. s.cost i ≡ unwrap_or o (cost_in m es i)) (λ _. r.cost_is i) (λ _. r.cost_is i);
        settled_is = r.settled_is;
      })

  -- whatever is asked or declined, where the past says the same of it
  unchanged : (e : Event) → here_in b (e ∷ es) ≡ here_in b es → slack_in b (e ∷ es) ≡ slack_in b es → ((j : ℕ) → cost_in m (e ∷ es) j ≡ cost_in m es j) → settled_in (e ∷ es) ≡ settled_in es → Reached m b (e ∷ es) s
  unchanged e h k c t = record {
    numbers = r.numbers;
    in_pass = r.in_pass;
    at_end = r.at_end;
    here_is = r.here_is ∙ sym h;
    landing_is = r.landing_is;
    slack_is = r.slack_is ∙ sym k;
    cost_is = λ j. r.cost_is j ∙ sym (c j);
    settled_is = r.settled_is ∙ sym t;
  }

  move_reached : (p : ℕ) (a : Answer) → a ≡ (outcome m s (move_to p)).answer → Reached m b (called (move_to p) a ∷ es) (outcome m s (move_to p)).after
  unfolding outcome
  move_reached p a e = go (move_refusal m p) refl e
    where
      go : (o : Option Refusal) → move_refusal m p ≡ o → a ≡ (unless s o (record { after = moved m s p; answer = done })).answer → Reached m b (called (move_to p) a ∷ es) (unless s o (record { after = moved m s p; answer = done })).after
      go None n e = subst (λ x. Reached m b (called (move_to p) x ∷ es) (moved m s p)) (sym e) (record {
        numbers = record { here_within = ltb-true _ _ (cond_only _ _ n); landing_within = r.numbers.landing_within; slack_low = r.numbers.slack_low; slack_high = r.numbers.slack_high; cost_low = r.numbers.cost_low; cost_high = r.numbers.cost_high; cost_far = r.numbers.cost_far; value_far = r.numbers.value_far };
        in_pass = λ e. absurd (true≢false e);
        at_end = λ e. absurd (false≢true e);
        here_is = refl;
        landing_is = r.landing_is;
        slack_is = r.slack_is;
        cost_is = r.cost_is;
        settled_is = refl;
      })
      go (Some refusal) n e = subst (λ x. Reached m b (called (move_to p) x ∷ es) s) (sym e) (unchanged (called (move_to p) (refuses refusal)) refl refl (λ j. refl) refl)

  stretch_reached : (k : ℕ) (a : Answer) → a ≡ (outcome m s (stretch_to k)).answer → Reached m b (called (stretch_to k) a ∷ es) (outcome m s (stretch_to k)).after
  unfolding outcome
  stretch_reached k a e = go (stretch_refusal m k) refl e
    where
      go : (o : Option Refusal) → stretch_refusal m k ≡ o → a ≡ (unless s o (record { after = stretched m s k; answer = done })).answer → Reached m b (called (stretch_to k) a ∷ es) (unless s o (record { after = stretched m s k; answer = done })).after
      go None n e =
          let both = and_parts (leb 16 k) (leb k 160) (cond_only _ _ n) in
          subst (λ x. Reached m b (called (stretch_to k) x ∷ es) (stretched m s k)) (sym e) (record {
            numbers = record { here_within = r.numbers.here_within; landing_within = r.numbers.landing_within; slack_low = leb-true _ _ both.0; slack_high = leb-true _ _ both.1; cost_low = r.numbers.cost_low; cost_high = r.numbers.cost_high; cost_far = r.numbers.cost_far; value_far = r.numbers.value_far };
            in_pass = λ e. absurd (true≢false e);
            at_end = λ e. absurd (false≢true e);
            here_is = r.here_is;
            landing_is = r.landing_is;
            slack_is = refl;
            cost_is = r.cost_is;
            settled_is = refl;
          })
      go (Some refusal) n e = subst (λ x. Reached m b (called (stretch_to k) x ∷ es) s) (sym e) (unchanged (called (stretch_to k) (refuses refusal)) refl refl (λ j. refl) refl)

  pub searched_ran : (turns : ℕ) → Ran m (start m s) turns (searched m s turns)
  searched_ran turns = run_ran m law turns (start m s) (start_sound m b es s r)

  search_reached : (turns : ℕ) (a : Answer) → a ≡ (outcome m s (search_for turns)).answer → Reached m b (called (search_for turns) a ∷ es) (outcome m s (search_for turns)).after
  unfolding outcome
  search_reached turns a e = go (ended m (searched m s turns)) refl e
    where
      ran : Ran m (start m s) turns (searched m s turns)
      ran = searched_ran turns

      same : Alike s (start m s)
      same = start_alike m s

      at_phase : (phase : Phase) (x : Answer) → (is_settled phase ≡ true → ended m (searched m s turns) ≡ true) → is_settled phase ≡ settled_in (called (search_for turns) x ∷ es) → Reached m b (called (search_for turns) x ∷ es) (in_phase m phase (searched m s turns))
      at_phase phase x end told = record {
        numbers = (sound_phase m phase (searched m s turns) ran.sound).standing;
        in_pass = λ _. sound_phase m phase (searched m s turns) ran.sound;
        at_end = λ h. ended_phase m phase (searched m s turns) ∙ end h;
        here_is = ran.alike.heres ∙ same.heres ∙ r.here_is;
        landing_is = ran.alike.landings ∙ same.landings ∙ r.landing_is;
        slack_is = ran.alike.slacks ∙ same.slacks ∙ r.slack_is;
        cost_is = λ j. ap (λ f. f j) (ran.alike.costs ∙ same.costs) ∙ r.cost_is j;
        settled_is = told;
      }

      go : (x : Bool) → ended m (searched m s turns) ≡ x → a ≡ (verdict m x ((searched m s turns).count - (start m s).count) (searched m s turns)).answer → Reached m b (called (search_for turns) a ∷ es) (verdict m x ((searched m s turns).count - (start m s).count) (searched m s turns)).after
      go true is e = subst (λ x. Reached m b (called (search_for turns) x ∷ es) (in_phase m settled (searched m s turns))) (sym e) (at_phase settled _ (λ _. is) refl)
      go false is e = subst (λ x. Reached m b (called (search_for turns) x ∷ es) (in_phase m under_way (searched m s turns))) (sym e) (at_phase under_way _ (λ h. absurd (false≢true h)) refl)

  unless_same : (o : Option Refusal) (x : Answer) → (unless s o (record { after = s; answer = x })).after ≡ s
  unless_same None x = refl
  unless_same (Some refusal) x = refl

  pub reached_next : (e : Event) → Right m s e → Reached m b (e ∷ es) (next m s e)
  unfolding outcome
  reached_next (called (set_cost j c) a) right = set_reached j c a right
  reached_next (called (move_to p) a) right = move_reached p a right
  reached_next (called (stretch_to k) a) right = stretch_reached k a right
  reached_next (called (search_for turns) a) right = search_reached turns a right
  reached_next (called (route_into entries) a) right = subst (Reached m b (called (route_into entries) a ∷ es)) (sym (unless_same (route_refusal m s entries) _)) (unchanged (called (route_into entries) a) refl refl (λ j. refl) refl)
  reached_next (called (sum_over js) a) right = subst (Reached m b (called (sum_over js) a ∷ es)) (sym (unless_same (sum_refusal m js) _)) (unchanged (called (sum_over js) a) refl refl (λ j. refl) refl)
  reached_next (turned_away refusal) right = unchanged (turned_away refusal) refl refl (λ j. refl) refl

pub reached : (m : Meaning) → Lawful m → (b : Begin) → Accepted m b → (es : Past) → Told m b es → Reached m b es (state_after m b es)
reached m law b acc [] told = reached_begin m law b acc
reached m law b acc (e ∷ es) told = reached_next m law b es (state_after m b es) (reached m law b acc es told.1) e told.0
