-- Where a search has ended: the route keeps the slack, and a value of far means that there is no open chain. Assumes nothing.
use Rattle.std.proofs.Common.{◌≡◌, ℕ, ◌+◌, ◌*◌, ◌<◌, ◌≤◌, min, true, false, ◌⊎◌, List, [], ◌∷◌, length, sym, ap, ◌∙◌, subst, inl, inr, mul-le-mul_right, mul-le-mul_left, mul-add, arith}
use Rattle.std.specs.List.{AllByRecursion}
use Rattle.std.proofs.lemmas.Bool.{cases_Bool, cases_eq, cases_lt, true≢false}
use Rattle.terms.specs.Amounts.{far}
use Rattle.ground.specs.Meanings.{Meaning, Lawful}
use Rattle.ground.specs.Chains.{Chain, sum_of}
use Rattle.method.specs.States.{State}
use Rattle.method.specs.Values.{rhs}
use Rattle.method.specs.Keys.{before, under_key, over_key, key}
use Rattle.method.specs.Calls.{capped_sum, follow, route_of}
use Rattle.method.proofs.Orders.{key_over, key_floor, first_before, nearer_floor}
use Rattle.method.proofs.Seen.{Seen, see}
use Rattle.method.proofs.Opens.{Open}
use Rattle.method.proofs.Running.{Sound, End, nothing_open, here_first}
use Rattle.method.proofs.Arriving.{Step, rank_below, Arrives, Goes, arrive}

pub capped_is : (cost : ℕ → ℕ) (js : List ℕ) → capped_sum cost js ≡ min (sum_of cost js) far
capped_is cost [] = omega arith
capped_is cost (j ∷ js) = omega (arith, capped_is cost js)

module _ (m : Meaning) (law : Lawful m) (s : State) (sound : Sound m s) where
  -- a place that is not open is not under
  settled_place : (q : ℕ) → q < m.places → (Open m s q → ⊥) → rhs m s q ≤ s.g q
  settled_place q q_in not_open = elim (cases_lt (s.g q) (rhs m s q)) [
    | inl low ↦ absurd (free low (cases_Bool (s.closed q)))
    | inr fine ↦ fine
  ]
    where
      free : s.g q < rhs m s q → (s.closed q ≡ true) ⊎ (s.closed q ≡ false) → ⊥
      free low (inl shut) = omega (arith, sound.pass.not_under q q_in shut)
      free low (inr f) = not_open (record { place_in = q_in; not_level = λ e. omega arith; free = f })

  seen_open : {sum p : ℕ} (seen : Seen m s sum p) → Open m s seen.place
  seen_open seen = record { place_in = seen.place_in; not_level = λ e. omega (arith, seen.is_over); free = seen.free }

  here_key : s.g s.here ≡ rhs m s s.here → key m s s.here ≡ under_key (s.g s.here) 0
  here_key e = key_floor m s s.here (omega arith) ∙ ap (under_key (s.g s.here)) (law.estimate_self s.here sound.standing.here_within)

  -- the rhs of here keeps the slack against every chain
  pub here_good : End m s → (js : List ℕ) → Chain m s.here js s.landing → 16 * rhs m s s.here ≤ s.slack * sum_of s.cost js
  here_good end js chain = elim (cases_lt (s.slack * sum_of s.cost js) (16 * rhs m s s.here)) [
    | inl bad ↦ absurd (clash end (see m law s sound.standing sound.pass.good js s.here chain bad) bad)
    | inr fine ↦ fine
  ]
    where
      clash : End m s → Seen m s (sum_of s.cost js) s.here → s.slack * sum_of s.cost js < 16 * rhs m s s.here → ⊥
      clash (nothing_open none) seen bad = none seen.place (seen_open seen)
      clash (here_first level first) seen bad =
          let own = law.estimate_self s.here sound.standing.here_within in
          let near : 16 * rhs m s seen.place + s.slack * m.estimate s.here seen.place ≤ s.slack * sum_of s.cost js = omega (arith, seen.near, mul-add s.slack (sum_of s.cost js) (m.estimate s.here s.here), ap (λ x. s.slack * x) own) in
          let sooner : before (key m s seen.place) (key m s s.here) ≡ true = rw (key_over m s seen.place seen.is_over, here_key level) (first_before (over_key s.slack (rhs m s seen.place) (m.estimate s.here seen.place)) (under_key (s.g s.here) 0) (omega arith)) in
          true≢false (sym sooner ∙ (first seen.place (seen_open seen)).1)

  here_not_under : End m s → rhs m s s.here ≤ s.g s.here
  here_not_under (nothing_open none) = settled_place s.here sound.standing.here_within (none s.here)
  here_not_under (here_first level first) = omega arith

  -- a place from which the way seems no longer than from here
  pub record Nearer (p : ℕ) : Type 0 where
    pub place_in : p < m.places
    pub not_under : rhs m s p ≤ s.g p
    pub near : 16 * s.g p + 16 * m.estimate s.here p ≤ 16 * s.g s.here

  nearer_goes : End m s → s.g s.here < far → Goes m s Nearer
  nearer_goes end low = record {
    place_in = λ p n. n.place_in;
    not_under = λ p n. n.not_under;
    below = λ p n. omega (arith, n.near);
    on = λ p j n step. next p j n step;
  }
    where
      next : (p j : ℕ) → Nearer p → Step m s p j → Nearer (m.head j)
      next p j n step =
          let t = m.head j in
          let in_t = law.head_in j step.arc_within in
          let some : 1 ≤ s.cost j = omega (arith, law.least_low j step.arc_within, sound.standing.cost_low j step.arc_within) in
          let near : 16 * s.g t + 16 * m.estimate s.here t ≤ 16 * s.g s.here = omega (arith, step.adds, n.not_under, n.near, law.estimate_step s.here j sound.standing.here_within step.arc_within, sound.standing.cost_low j step.arc_within, ap (m.estimate s.here) step.from) in
          let lower : s.g t < s.g s.here = omega (arith, step.adds, n.not_under, n.near) in
          record { place_in = in_t; near = near; not_under = settled t in_t near lower end }
        where
          settled : (t : ℕ) → t < m.places → 16 * s.g t + 16 * m.estimate s.here t ≤ 16 * s.g s.here → s.g t < s.g s.here → End m s → rhs m s t ≤ s.g t
          settled t in_t near lower (nothing_open none) = settled_place t in_t (none t)
          settled t in_t near lower (here_first level first) = elim (cases_lt (s.g t) (rhs m s t)) [
            | inl under ↦ absurd (clash under (cases_Bool (s.closed t)))
            | inr fine ↦ fine
          ]
            where
              clash : s.g t < rhs m s t → (s.closed t ≡ true) ⊎ (s.closed t ≡ false) → ⊥
              clash under (inl shut) = omega (arith, sound.pass.not_under t in_t shut)
              clash under (inr free) =
                  let o : Open m s t = record { place_in = in_t; not_level = λ e. omega arith; free = free } in
                  let sooner : before (key m s t) (key m s s.here) ≡ true = rw (key_floor m s t (omega arith), here_key level) (nearer_floor (s.g t) (s.g s.here) (m.estimate s.here t) near lower) in
                  true≢false (sym sooner ∙ (first t o).1)

  -- the route of a search that has ended, where here has a value below far
  pub route_arrives : End m s → s.g s.here < far → Arrives m s s.here (route_of m s)
  route_arrives end low =
      arrive m law s sound.standing Nearer (nearer_goes end low) m.places s.here (rank_below m s s.here sound.standing.here_within)
      (record {
        place_in = sound.standing.here_within;
        not_under = here_not_under end;
        near = omega (arith, law.estimate_self s.here sound.standing.here_within);
      })

  -- in sixteenths of any chain's sum, its own does not pass the slack
  pub route_slack : End m s → s.g s.here < far → (other : List ℕ) → Chain m s.here other s.landing → 16 * capped_sum s.cost (route_of m s) ≤ s.slack * capped_sum s.cost other
  route_slack end low other chain =
      let arrives = route_arrives end low in
      let best = here_good end other chain in
      let mine = capped_is s.cost (route_of m s) in
      let theirs = capped_is s.cost other in
      elim (cases_lt (sum_of s.cost other) far) [
        | inl small ↦ (let same : capped_sum s.cost other ≡ sum_of s.cost other = omega arith in rw same (omega (arith, arrives.sum_low)))
        | inr large ↦ (let same : capped_sum s.cost other ≡ far = omega arith in rw same (omega (arith, mul-le-mul_right far sound.standing.slack_low)))
      ]

  -- where nothing is open, every value below far is well below it
  module _ (none : (q : ℕ) → Open m s q → ⊥) where
    pub record Finite (p : ℕ) : Type 0 where
      pub place_in : p < m.places
      pub below : s.g p < far

    finite_goes : Goes m s Finite
    finite_goes = record {
      place_in = λ p f. f.place_in;
      not_under = λ p f. settled_place p f.place_in (none p);
      below = λ p f. f.below;
      on = λ p j f step. record { place_in = law.head_in j step.arc_within; below = omega (arith, step.adds, settled_place p f.place_in (none p), f.below) };
    }

    sum_few : (p : ℕ) (js : List ℕ) → Chain m p js s.landing → AllByRecursion (λ j. s.cost j < far) js → sum_of s.cost js ≤ 10000 * length js
    sum_few p [] c o = omega arith
    sum_few p (j ∷ js) c o = omega (arith, sound.standing.cost_high j c.0 o.0, sum_few (m.head j) js c.2 o.1)

    -- every place that is not open keeps the slack against every chain
    all_good : (p : ℕ) → p < m.places → (js : List ℕ) → Chain m p js s.landing → 16 * s.g p ≤ s.slack * sum_of s.cost js
    all_good p p_in js chain = go (cases_Bool (s.closed p))
      where
        fine : 16 * rhs m s p ≤ s.slack * sum_of s.cost js
        fine = elim (cases_lt (s.slack * sum_of s.cost js) (16 * rhs m s p)) [
          | inl bad ↦ absurd (let seen = see m law s sound.standing sound.pass.good js p chain bad in none seen.place (seen_open seen))
          | inr ok ↦ ok
        ]

        go : (s.closed p ≡ true) ⊎ (s.closed p ≡ false) → 16 * s.g p ≤ s.slack * sum_of s.cost js
        go (inl shut) = sound.pass.good p p_in shut js chain
        go (inr free) = elim (cases_eq (s.g p) (rhs m s p)) [
          | inl level ↦ omega (arith, fine)
          | inr apart ↦ absurd (none p (record { place_in = p_in; not_level = apart; free = free }))
        ]

    -- a chain of few arcs keeps a value far below far
    bounded : (p : ℕ) → p < m.places → (js : List ℕ) → Chain m p js s.landing → sum_of s.cost js ≤ 163840000 → s.g p ≤ 1638400000
    bounded p p_in js chain few = omega (arith, all_good p p_in js chain, mul-le-mul_left s.slack few, mul-le-mul_right 163840000 sound.standing.slack_high)

    -- along an open chain to the landing every value is below far
    all_finite : (js : List ℕ) (p : ℕ) → Chain m p js s.landing → AllByRecursion (λ j. s.cost j < far) js → s.g p < far
    all_finite [] p c o = omega (arith, bounded p c.0 [] c (omega arith))
    all_finite (j ∷ js) p c o =
        let v = m.head j in
        let v_in = law.head_in j c.0 in
        let finite : Finite v = record { place_in = v_in; below = all_finite js v c.2 o.1 } in
        let arrives = arrive m law s sound.standing Finite finite_goes m.places v (rank_below m s v v_in) finite in
        let route = follow m s m.places v in
        let few = sum_few v route arrives.chain arrives.open_arcs in
        let p_in : p < m.places = subst (λ q. q < m.places) c.1 (law.tail_in j c.0) in
        omega (arith, bounded p p_in (j ∷ route) (c.0, c.1, arrives.chain) (omega (arith, few, arrives.short, rank_below m s v v_in, law.few_places, sound.standing.cost_high j c.0 o.0)))

  -- a value of far at here means that there is no open chain
  pub no_way_none : End m s → s.g s.here ≡ far → (js : List ℕ) → Chain m s.here js s.landing → AllByRecursion (λ j. s.cost j < far) js → ⊥
  no_way_none (nothing_open none) e js chain o = omega (arith, all_finite none js s.here chain o)
  no_way_none (here_first level first) e js chain o = omega (arith, all_finite (λ q k. (first q k).0 e) js s.here chain o)
