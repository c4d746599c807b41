-- The steps of a route, one arc at a time. Assumes nothing.
use Rattle.std.proofs.Common.{◌≡◌, ℕ, zero, suc, ◌+◌, ◌-◌, ◌<◌, ◌≤◌, Bool, true, false, cond, eqb, ltb, List, [], ◌∷◌, ◌++◌, length, get_or, take, set, Some, None, Option, sym, refl, ap, ◌∙◌, inl, inr, append_assoc, arith, length-append}
use Rattle.std.proofs.lemmas.List.{length-set, length-take-le, take_more_set}
use Rattle.std.proofs.lemmas.Bool.{cases_lt}
use Rattle.ground.specs.Meanings.{Meaning}
use Rattle.ground.specs.Questions.{arcs_from}
use Rattle.terms.specs.Amounts.{far, ◌⊕◌}
use Rattle.method.specs.Calls.{capped_sum, cheapest, follow, onward}
use Rattle.method.proofs.Offers.{left_by}
use Rattle.method.proofs.Bests.{best_member}
use Rattle.plan.proofs.Totals.{capped_assoc, sum_start}
use Rattle.search.specs.Tables.{offered, told}
use Rattle.search.specs.declared.aim.Aim.{Aim}
use Rattle.search.specs.declared.place.Place.{Place}
use Rattle.plan.specs.Routes.{step_from, with_head, route_in, Written}

module _ (m : Meaning) (aim : Aim) (costs : List ℕ) (places : List Place) where
  onward_step : (b : Bool) (o : Option ℕ) (a j h : ℕ) → cond b None (with_head m o) ≡ Some (j, h) → cond b [] (onward o (λ i. follow m (told aim costs places) a (m.head i))) ≡ j ∷ follow m (told aim costs places) a h
  onward_step true o a j h e = absurd (let z : ◌≡◌ {A = ℕ} 0 1 = cc in omega arith)
  onward_step false None a j h e = absurd (let z : ◌≡◌ {A = ℕ} 0 1 = cc in omega arith)
  onward_step false (Some i) a j h e =
      let pair : ◌≡◌ {A = ℕ × ℕ} (i, m.head i) (j, h) = cc in
      let same : i ≡ j = ap (λ (x : ℕ × ℕ). x.0) pair in
      let to : m.head i ≡ h = ap (λ (x : ℕ × ℕ). x.1) pair in
      λ t. same t ∷ follow m (told aim costs places) a (to t)

  onward_end : (b : Bool) (o : Option ℕ) (a : ℕ) → cond b None (with_head m o) ≡ None → cond b [] (onward o (λ i. follow m (told aim costs places) a (m.head i))) ≡ []
  onward_end true o a e = refl
  onward_end false None a e = refl
  onward_end false (Some i) a e = absurd (let z : ◌≡◌ {A = ℕ} 0 1 = cc in omega arith)

  -- an arc is the route's next
  pub follow_step : (p a k j h : ℕ) → a ≡ suc k → step_from m aim.landing costs places p ≡ Some (j, h) → follow m (told aim costs places) a p ≡ j ∷ follow m (told aim costs places) k h
  unfolding follow
  follow_step p a k j h e s = ap (λ n. follow m (told aim costs places) n p) e ∙ onward_step (eqb p aim.landing) (cheapest (offered m costs places) (arcs_from m p)) k j h s

  -- the route ends
  pub follow_end : (p a : ℕ) → step_from m aim.landing costs places p ≡ None → follow m (told aim costs places) a p ≡ []
  unfolding follow
  follow_end p zero s = refl
  follow_end p (suc k) s = onward_end (eqb p aim.landing) (cheapest (offered m costs places) (arcs_from m p)) k s

  pub follow_none : (p : ℕ) → follow m (told aim costs places) 0 p ≡ []
  unfolding follow
  follow_none p = refl

-- So many arcs of the route are written, the rest goes on from this place, and this is what they sum up to.
pub record WrittenTo (m : Meaning) (aim : Aim) (costs : List ℕ) (places : List Place) (list list' : List ℕ) (k p sum : ℕ) : Type 0 where
  pub size : length list' ≡ length list
  pub front : length list ≡ length (route_in m aim costs places) → route_in m aim costs places ≡ take k list' ++ follow m (told aim costs places) (m.places - k) p
  pub summed : length list ≡ length (route_in m aim costs places) → capped_sum (λ j. get_or costs j 0) (route_in m aim costs places) ≡ sum ⊕ capped_sum (λ j. get_or costs j 0) (follow m (told aim costs places) (m.places - k) p)
  pub low : sum ≤ far

module _ (m : Meaning) (aim : Aim) (costs : List ℕ) (places : List Place) (list : List ℕ) where
  pub written_none : WrittenTo m aim costs places list list 0 aim.here 0
  written_none =
      let e : m.places ≡ m.places - 0 = omega arith in
      record {
        size = refl;
        front = λ _. ap (λ a. follow m (told aim costs places) a aim.here) e;
        summed = λ _. sum_start (λ j. get_or costs j 0) (route_in m aim costs places) ∙ ap (λ a. 0 ⊕ capped_sum (λ j. get_or costs j 0) (follow m (told aim costs places) a aim.here)) e;
        low = omega arith;
      }

  module _ (list' : List ℕ) (k p sum : ℕ) (w : WrittenTo m aim costs places list list' k p sum) where
    -- while arcs are missing, the ground has not run out of places
    room : k < length list → length list ≡ length (route_in m aim costs places) → m.places - k ≡ suc (m.places - (k + 1))
    room h e = elim (cases_lt k m.places) [
      | inl l ↦ omega arith
      | inr l ↦
          let z : m.places - k ≡ 0 = omega arith in
          absurd (omega (arith, w.size, ap length (w.front e), length-append (take k list') (follow m (told aim costs places) (m.places - k) p), length-take-le k list' (omega (arith, w.size)), ap (λ a. length (follow m (told aim costs places) a p)) z, ap length (follow_none m aim costs places p)))
    ]

    pub written_more : k < length list → (j h sum' : ℕ) → step_from m aim.landing costs places p ≡ Some (j, h) → sum' ≡ sum ⊕ get_or costs j 0 → (list'' : List ℕ) → list'' ≡ set list' k j → WrittenTo m aim costs places list list'' (k + 1) h sum'
    written_more below j h sum' s is list'' put =
        let fits : k < length list' = omega (arith, w.size) in
        let go : length list ≡ length (route_in m aim costs places) → follow m (told aim costs places) (m.places - k) p ≡ j ∷ follow m (told aim costs places) (m.places - (k + 1)) h =
        λ e. follow_step m aim costs places p (m.places - k) (m.places - (k + 1)) j h (room below e) s in
        record {
          size = ap length put ∙ length-set list' k j ∙ w.size;
          front = λ e. w.front e ∙ ap (λ xs. take k list' ++ xs) (go e) ∙ sym (append_assoc (take k list') (j ∷ []) (follow m (told aim costs places) (m.places - (k + 1)) h)) ∙ ap (λ xs. xs ++ follow m (told aim costs places) (m.places - (k + 1)) h) (sym (ap (take (k + 1)) put ∙ take_more_set list' k j fits));
          summed = λ e. w.summed e ∙ ap (λ xs. sum ⊕ capped_sum (λ i. get_or costs i 0) xs) (go e) ∙ sym (capped_assoc sum (get_or costs j 0) (capped_sum (λ i. get_or costs i 0) (follow m (told aim costs places) (m.places - (k + 1)) h))) ∙ ap (λ z. z ⊕ capped_sum (λ i. get_or costs i 0) (follow m (told aim costs places) (m.places - (k + 1)) h)) (sym is);
          low = omega arith;
        }

    -- the route ended before the list was full: then it is not so long
    pub written_short : k < length list → step_from m aim.landing costs places p ≡ None → (list'' : List ℕ) → Written m aim costs places list list'' sum
    written_short below s list'' =
        let never : length list ≡ length (route_in m aim costs places) → ⊥ =
        λ e. omega (arith, w.size, ap length (w.front e), length-append (take k list') (follow m (told aim costs places) (m.places - k) p), length-take-le k list' (omega (arith, w.size)), ap length (follow_end m aim costs places p (m.places - k) s)) in
        record { listed = λ e. absurd (never e); summed = λ e. absurd (never e) }

    nothing : (xs : List ℕ) → length xs ≡ 0 → xs ≡ []
    nothing [] e = refl
    nothing (x ∷ xs) e = absurd (omega arith)

-- the arc with the smallest offer is an arc
pub best_in : (m : Meaning) (costs : List ℕ) (places : List Place) (p j : ℕ) → cheapest (offered m costs places) (arcs_from m p) ≡ Some j → j < m.arcs
best_in m costs places p j e = (left_by m p j (best_member (λ i k. ltb (offered m costs places i) (offered m costs places k)) (arcs_from m p) j e)).0
