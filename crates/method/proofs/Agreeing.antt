-- Calls on states that agree answer alike, and leave states that agree. Assumes nothing.
use Rattle.std.proofs.Common.{◌≡◌, ℕ, zero, suc, ◌+◌, ◌-◌, ◌<◌, Bool, true, false, cond, not, ◌&&◌, ◌||◌, eqb, ltb, leb, ◌⊎◌, List, [], ◌∷◌, map, length, Some, None, Option, sym, refl, ap, ◌∙◌, subst, inl, inr, arith}
use Rattle.std.proofs.lemmas.Bool.{cases_Bool, and_parts, and_from, ltb-true, lt-ltb}
use Rattle.terms.specs.Amounts.{far, ◌⊕◌}
use Rattle.terms.specs.declared.refusal.Refusal.{Refusal}
use Rattle.terms.specs.declared.refusal.Refusal.TheVariants.{NoSuchArc, NotSettled, NoWay, ListShort}
use Rattle.ground.specs.Meanings.{Meaning, Lawful}
use Rattle.ground.specs.Questions.{arcs_from}
use Rattle.ground.proofs.ArcsAt.{kept_same}
use Rattle.method.specs.States.{State, is_changed, is_settled}
use Rattle.method.specs.Values.{smallest, offer, rhs, over, level, is_open, open_places}
use Rattle.method.specs.Keys.{before, over_key, under_key, key}
use Rattle.method.specs.Choices.{better, best}
use Rattle.method.specs.Turns.{soonest, all_of, is_none, here_after, ended, turn_taken, turn_with, turn, run}
use Rattle.method.specs.Calls.{Call, set_cost, move_to, stretch_to, search_for, route_into, sum_over, Answer, done, settles, cuts, routes, sums, unless, standing, capped_sum, cheapest, onward, follow, route_of, set_refusal, move_refusal, stretch_refusal, sum_refusal, route_refusal, cost_set, moved, stretched, emptied, start, searched, verdict, outcome}
use Rattle.method.specs.Agreement.{Agrees, Alike, AgreementLaw}
use Rattle.method.proofs.Bests.{best_member}
use Rattle.method.proofs.Members.{Member, member_kept}
use Rattle.method.proofs.Offers.{left_by}

map_same : (f g : ℕ → ℕ) (xs : List ℕ) → ((x : ℕ) → Member x xs → f x ≡ g x) → map f xs ≡ map g xs
map_same f g [] h = refl
map_same f g (x ∷ xs) h = λ i. h x (inl refl) i ∷ map_same f g xs (λ y k. h y (inr k)) i

all_same : (p q : ℕ → Bool) (xs : List ℕ) → ((x : ℕ) → Member x xs → p x ≡ q x) → all_of p xs ≡ all_of q xs
all_same p q [] h = refl
all_same p q (x ∷ xs) h = λ i. h x (inl refl) i && all_same p q xs (λ y k. h y (inr k)) i

best_same : (a b : ℕ → ℕ → Bool) (xs : List ℕ) → ((x y : ℕ) → Member x xs → Member y xs → a x y ≡ b x y) → best a xs ≡ best b xs
best_same a b [] h = refl
best_same a b (x ∷ xs) h = ap (better a x) (best_same a b xs (λ y z k l. h y z (inr k) (inr l))) ∙ go (best b xs) refl
  where
    go : (r : Option ℕ) → best b xs ≡ r → better a x r ≡ better b x r
    go None n = refl
    go (Some y) n = ap (λ t. cond t (Some y) (Some x)) (h y x (inr (best_member b xs y n)) (inl refl))

module _ (m : Meaning) (law : Lawful m) where
  module _ (s t : State) (same : Agrees m s t) where
    offers : (p j : ℕ) → Member j (arcs_from m p) → offer m t j ≡ offer m s j
    offers p j h =
        let at = left_by m p j h in
        λ i. same.costs j at.0 i ⊕ same.values (m.head j) (law.head_in j at.0) i

    rhs_same : (p : ℕ) → rhs m t p ≡ rhs m s p
    unfolding rhs
    rhs_same p = λ i. cond (eqb p (same.landings i)) 0 (smallest (map_same (offer m t) (offer m s) (arcs_from m p) (offers p) i))

    over_same : (p : ℕ) → p < m.places → over m t p ≡ over m s p
    over_same p h = λ i. ltb (rhs_same p i) (same.values p h i)

    level_same : (p : ℕ) → p < m.places → level m t p ≡ level m s p
    level_same p h = λ i. eqb (same.values p h i) (rhs_same p i)

    opens : open_places m t ≡ open_places m s
    unfolding is_open
    opens = kept_same (is_open m t) (is_open m s) 0 m.places (λ p low high. λ i. not (level_same p (omega arith) i) && not (same.closeds p (omega arith) i))

    key_same : (p : ℕ) → p < m.places → key m t p ≡ key m s p
    unfolding key
    key_same p h = λ i. cond (over_same p h i) (over_key (same.slacks i) (rhs_same p i) (m.estimate (same.heres i) p)) (under_key (same.values p h i) (m.estimate (same.heres i) p))

    listed : (p : ℕ) → Member p (open_places m s) → p < m.places
    listed p h = omega (arith, (member_kept (is_open m s) 0 m.places p h).upto)

    soonest_same : soonest (key m t) (open_places m t) ≡ soonest (key m s) (open_places m s)
    soonest_same =
        ap (λ ps. soonest (key m t) ps) opens
        ∙ best_same (λ q p. before (key m t q) (key m t p)) (λ q p. before (key m s q) (key m s p)) (open_places m s) (λ q p h k. λ i. before (key_same q (listed q h) i) (key_same p (listed p k) i))

    module _ (here_in : s.here < m.places) where
      here_value : t.g t.here ≡ s.g s.here
      here_value = ap t.g same.heres ∙ same.values s.here here_in

      here_key : key m t t.here ≡ key m s s.here
      here_key = ap (key m t) same.heres ∙ key_same s.here here_in

      ended_same : ended m t ≡ ended m s
      unfolding ended
      ended_same =
          let here_level : level m t t.here ≡ level m s s.here = ap (level m t) same.heres ∙ level_same s.here here_in in
          let rest : all_of (λ p. not (here_after m t p)) (open_places m t) ≡ all_of (λ p. not (here_after m s p)) (open_places m s) =
          ap (all_of (λ p. not (here_after m t p))) opens
          ∙ all_same (λ p. not (here_after m t p)) (λ p. not (here_after m s p)) (open_places m s) (λ p h. λ i. not (eqb (here_value i) far || before (key_same p (listed p h) i) (here_key i))) in
          λ i. is_none (opens i) || (here_level i && rest i)

    turned_same : (p : ℕ) → p < m.places → Agrees m (turn_taken m s p) (turn_taken m t p)
    unfolding turn_taken
    turned_same p h = record {
      costs = same.costs;
      values = λ q q_in. λ i. cond (eqb q p) (cond (over_same p h i) (rhs_same p i) far) (same.values q q_in i);
      closeds = λ q q_in. λ i. cond (eqb q p) (over_same p h i || same.closeds p h i) (same.closeds q q_in i);
      heres = same.heres;
      landings = same.landings;
      slacks = same.slacks;
      counts = ap (λ c. c + 1) same.counts;
      phases = same.phases;
    }

    turn_same : Agrees m (turn m s) (turn m t)
    turn_same = go (soonest (key m s) (open_places m s)) refl
      where
        go : (r : Option ℕ) → soonest (key m s) (open_places m s) ≡ r → Agrees m (turn m s) (turn m t)
        go None e = subst (λ o. Agrees m (turn_with m s o) (turn m t)) (sym e) (subst (λ o. Agrees m s (turn_with m t o)) (sym (soonest_same ∙ e)) same)
        go (Some p) e =
            let p_in = listed p (best_member (λ q p. before (key m s q) (key m s p)) (open_places m s) p e) in
            subst (λ o. Agrees m (turn_with m s o) (turn m t)) (sym e) (subst (λ o. Agrees m (turn_taken m s p) (turn_with m t o)) (sym (soonest_same ∙ e)) (turned_same p p_in))

    turn_here : (turn m s).here ≡ s.here
    unfolding turn_taken
    turn_here = go (soonest (key m s) (open_places m s))
      where
        go : (r : Option ℕ) → (turn_with m s r).here ≡ s.here
        go None = refl
        go (Some p) = refl

    cheapest_same : (p : ℕ) → cheapest (offer m t) (arcs_from m p) ≡ cheapest (offer m s) (arcs_from m p)
    cheapest_same p = best_same (λ i j. ltb (offer m t i) (offer m t j)) (λ i j. ltb (offer m s i) (offer m s j)) (arcs_from m p) (λ i j h k. λ x. ltb (offers p i h x) (offers p j k x))

    follow_same : (fuel p : ℕ) → follow m t fuel p ≡ follow m s fuel p
    unfolding follow
    follow_same zero p = refl
    follow_same (suc fuel) p = λ i. cond (eqb p (same.landings i)) [] (on (follow_same fuel) i)
      where
        rest : ((q : ℕ) → follow m t fuel q ≡ follow m s fuel q) → (o : Option ℕ) → onward o (λ j. follow m t fuel (m.head j)) ≡ onward o (λ j. follow m s fuel (m.head j))
        rest more None = refl
        rest more (Some j) = ap (λ js. j ∷ js) (more (m.head j))

        on : ((q : ℕ) → follow m t fuel q ≡ follow m s fuel q) → onward (cheapest (offer m t) (arcs_from m p)) (λ j. follow m t fuel (m.head j)) ≡ onward (cheapest (offer m s) (arcs_from m p)) (λ j. follow m s fuel (m.head j))
        on more = ap (λ o. onward o (λ j. follow m t fuel (m.head j))) (cheapest_same p) ∙ rest more (cheapest (offer m s) (arcs_from m p))

  run_same : (turns : ℕ) (s t : State) → Agrees m s t → s.here < m.places → Agrees m (run m turns s) (run m turns t)
  unfolding run
  run_same zero s t same here_in = same
  run_same (suc turns) s t same here_in = go (ended m s) refl (run_same turns)
    where
      go : (b : Bool) → ended m s ≡ b → ((s t : State) → Agrees m s t → s.here < m.places → Agrees m (run m turns s) (run m turns t)) → Agrees m (cond (ended m s) s (run m turns (turn m s))) (cond (ended m t) t (run m turns (turn m t)))
      go true e more = rw (ended_same s t same here_in, e) same
      go false e more = rw (ended_same s t same here_in, e) (more (turn m s) (turn m t) (turn_same s t same) (subst (λ h. h < m.places) (sym (turn_here s t same)) here_in))

  start_same : (s t : State) → Agrees m s t → Agrees m (start m s) (start m t)
  start_same s t same = subst (λ c. Agrees m (start m s) (cond c (emptied m t) t)) (sym (ap is_changed same.phases)) (go (is_changed s.phase))
    where
      go : (c : Bool) → Agrees m (cond c (emptied m s) s) (cond c (emptied m t) t)
      go true = record { costs = same.costs; values = same.values; closeds = λ p h. refl; heres = same.heres; landings = same.landings; slacks = same.slacks; counts = refl; phases = same.phases }
      go false = same

  start_here : (s : State) → (start m s).here ≡ s.here
  start_here s = go (is_changed s.phase)
    where
      go : (c : Bool) → (cond c (emptied m s) s).here ≡ s.here
      go true = refl
      go false = refl

  run_here : (turns : ℕ) (s : State) → (run m turns s).here ≡ s.here
  unfolding run
  run_here zero s = refl
  run_here (suc turns) s = go (ended m s) (run_here turns (turn m s))
    where
      turned : (o : Option ℕ) → (turn_with m s o).here ≡ s.here
      turned None = refl
      turned (Some p) = turn_at p
        where
          turn_at : (p : ℕ) → (turn_taken m s p).here ≡ s.here
          turn_at p = unfold turn_taken in refl

      go : (b : Bool) → (run m turns (turn m s)).here ≡ (turn m s).here → (cond b s (run m turns (turn m s))).here ≡ s.here
      go true e = refl
      go false e = e ∙ turned (soonest (key m s) (open_places m s))

  module _ (s t : State) (same : Agrees m s t) where
    capped_same : (js : List ℕ) → all_of (λ j. ltb j m.arcs) js ≡ true → capped_sum t.cost js ≡ capped_sum s.cost js
    capped_same [] h = refl
    capped_same (j ∷ js) h = let both = and_parts (ltb j m.arcs) (all_of (λ j. ltb j m.arcs) js) h in λ i. same.costs j (ltb-true _ _ both.0) i ⊕ capped_same js both.1 i

    -- a call that changes nothing answers alike where its refusal and its answer are alike
    asked : (call : Call) (o : Option Refusal) (x y : Answer) → x ≡ y → outcome m s call ≡ unless s o (record { after = s; answer = x }) → outcome m t call ≡ unless t o (record { after = t; answer = y }) → Alike m s t call
    asked call None x y e a b = record { answers = ap (λ z. z.answer) b ∙ sym e ∙ sym (ap (λ z. z.answer) a); afters = subst (λ z. Agrees m z.after (outcome m t call).after) (sym a) (subst (λ z. Agrees m s z.after) (sym b) same) }
    asked call (Some r) x y e a b = record { answers = ap (λ z. z.answer) b ∙ sym (ap (λ z. z.answer) a); afters = subst (λ z. Agrees m z.after (outcome m t call).after) (sym a) (subst (λ z. Agrees m s z.after) (sym b) same) }

    altered : (call : Call) (o : Option Refusal) (s' t' : State) → Agrees m s' t' → outcome m s call ≡ unless s o (record { after = s'; answer = done }) → outcome m t call ≡ unless t o (record { after = t'; answer = done }) → Alike m s t call
    altered call None s' t' k a b = record { answers = ap (λ z. z.answer) b ∙ sym (ap (λ z. z.answer) a); afters = subst (λ z. Agrees m z.after (outcome m t call).after) (sym a) (subst (λ z. Agrees m s' z.after) (sym b) k) }
    altered call (Some r) s' t' k a b = record { answers = ap (λ z. z.answer) b ∙ sym (ap (λ z. z.answer) a); afters = subst (λ z. Agrees m z.after (outcome m t call).after) (sym a) (subst (λ z. Agrees m s z.after) (sym b) same) }

    verdict_same : (b : Bool) (made : ℕ) (x y : State) → Agrees m x y → ((verdict m b made y).answer ≡ (verdict m b made x).answer) × Agrees m (verdict m b made x).after (verdict m b made y).after
    verdict_same true made x y k = (ap (settles made) k.counts, record { costs = k.costs; values = k.values; closeds = k.closeds; heres = k.heres; landings = k.landings; slacks = k.slacks; counts = k.counts; phases = refl })
    verdict_same false made x y k = (ap (cuts made) k.counts, record { costs = k.costs; values = k.values; closeds = k.closeds; heres = k.heres; landings = k.landings; slacks = k.slacks; counts = k.counts; phases = refl })

    search_alike : s.here < m.places → (turns : ℕ) → Alike m s t (search_for turns)
    unfolding outcome
    search_alike here_in turns =
        let x = searched m s turns in
        let y = searched m t turns in
        let begins = start_same s t same in
        let k : Agrees m x y = run_same turns (start m s) (start m t) begins (subst (λ h. h < m.places) (sym (start_here s)) here_in) in
        let over : ended m y ≡ ended m x = ended_same x y k (subst (λ h. h < m.places) (sym (run_here turns (start m s) ∙ start_here s)) here_in) in
        let made : y.count - (start m t).count ≡ x.count - (start m s).count = λ i. k.counts i - begins.counts i in
        let both = verdict_same (ended m x) (x.count - (start m s).count) x y k in
        record {
          answers = (λ i. (verdict m (over i) (made i) y).answer) ∙ both.0;
          afters = subst (λ v. Agrees m (verdict m (ended m x) (x.count - (start m s).count) x).after v.after) (sym (λ i. verdict m (over i) (made i) y)) both.1;
        }

    arcs_in : (fuel p : ℕ) → all_of (λ j. ltb j m.arcs) (follow m s fuel p) ≡ true
    unfolding follow
    arcs_in zero p = refl
    arcs_in (suc fuel) p = go (eqb p s.landing) (cheapest (offer m s) (arcs_from m p)) refl (arcs_in fuel)
      where
        go : (b : Bool) (o : Option ℕ) → cheapest (offer m s) (arcs_from m p) ≡ o → ((q : ℕ) → all_of (λ j. ltb j m.arcs) (follow m s fuel q) ≡ true) → all_of (λ j. ltb j m.arcs) (cond b [] (onward o (λ j. follow m s fuel (m.head j)))) ≡ true
        go true o e more = refl
        go false None e more = refl
        go false (Some j) e more = and_from (ltb j m.arcs) _ (lt-ltb _ _ (left_by m p j (best_member _ (arcs_from m p) j e)).0) (more (m.head j))

    route_same : route_of m t ≡ route_of m s
    route_same = ap (follow m t m.places) same.heres ∙ follow_same s t same m.places s.here

    route_alike : s.here < m.places → (entries : ℕ) → Alike m s t (route_into entries)
    unfolding outcome
    route_alike here_in entries =
        let refusals : route_refusal m t entries ≡ route_refusal m s entries = λ i. cond (is_settled (same.phases i)) (cond (eqb (here_value s t same here_in i) far) (Some NoWay) (cond (leb (length (route_same i)) entries) None (Some ListShort))) (Some NotSettled) in
        let sums_same : capped_sum t.cost (route_of m t) ≡ capped_sum s.cost (route_of m s) = ap (capped_sum t.cost) route_same ∙ capped_same (route_of m s) (arcs_in m.places s.here) in
        let told : routes (route_of m s) (capped_sum s.cost (route_of m s)) ≡ routes (route_of m t) (capped_sum t.cost (route_of m t)) = sym (λ i. routes (route_same i) (sums_same i)) in
        asked (route_into entries) (route_refusal m s entries) _ _ told refl (ap (λ o. unless t o (record { after = t; answer = routes (route_of m t) (capped_sum t.cost (route_of m t)) })) refusals)

    sum_alike : (js : List ℕ) → Alike m s t (sum_over js)
    unfolding outcome
    sum_alike js = go (cases_Bool (all_of (λ j. ltb j m.arcs) js))
      where
        go : (all_of (λ j. ltb j m.arcs) js ≡ true) ⊎ (all_of (λ j. ltb j m.arcs) js ≡ false) → Alike m s t (sum_over js)
        go (inl h) = asked (sum_over js) (sum_refusal m js) _ _ (ap sums (sym (capped_same js h))) refl refl
        go (inr h) =
            let none : sum_refusal m js ≡ Some NoSuchArc = ap (λ b. cond b None (Some NoSuchArc)) h in
            asked (sum_over js) (Some NoSuchArc) (sums 0) (sums 0) refl (ap (λ o. unless s o (record { after = s; answer = sums (capped_sum s.cost js) })) none) (ap (λ o. unless t o (record { after = t; answer = sums (capped_sum t.cost js) })) none)

    pub alike : s.here < m.places → (call : Call) → Alike m s t call
    unfolding outcome
    alike here_in (set_cost j c) = altered (set_cost j c) (set_refusal m j c) (cost_set m s j c) (cost_set m t j c) (record { costs = λ i h. λ x. cond (eqb i j) (standing c) (same.costs i h x); values = same.values; closeds = same.closeds; heres = same.heres; landings = same.landings; slacks = same.slacks; counts = same.counts; phases = refl }) refl refl
    alike here_in (move_to p) = altered (move_to p) (move_refusal m p) (moved m s p) (moved m t p) (record { costs = same.costs; values = same.values; closeds = same.closeds; heres = refl; landings = same.landings; slacks = same.slacks; counts = same.counts; phases = refl }) refl refl
    alike here_in (stretch_to e) = altered (stretch_to e) (stretch_refusal m e) (stretched m s e) (stretched m t e) (record { costs = same.costs; values = same.values; closeds = same.closeds; heres = same.heres; landings = same.landings; slacks = refl; counts = same.counts; phases = refl }) refl refl
    alike here_in (search_for turns) = search_alike here_in turns
    alike here_in (route_into entries) = route_alike here_in entries
    alike here_in (sum_over js) = sum_alike js

pub agreement_law : AgreementLaw
agreement_law m law s t same here_in call = alike m law s t same here_in call
