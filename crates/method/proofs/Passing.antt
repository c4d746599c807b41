-- What every turn of a pass keeps. Assumes nothing.
use Rattle.std.proofs.Common.{◌≡◌, ℕ, ◌*◌, ◌<◌, ◌≤◌, Bool, true, false, ◌⊎◌, List, sym, refl, ap, ◌∙◌, subst, inl, inr, mul-add, arith}
use Rattle.std.proofs.lemmas.Bool.{cases_eq, cases_lt, cases_Bool, true≢false}
use Rattle.terms.specs.Amounts.{far}
use Rattle.ground.specs.Meanings.{Meaning, Lawful}
use Rattle.ground.specs.Chains.{Chain, sum_of}
use Rattle.method.specs.States.{State}
use Rattle.method.specs.Values.{rhs}
use Rattle.method.specs.Keys.{under_key, key}
use Rattle.method.proofs.Offers.{rhs_far}
use Rattle.method.proofs.Orders.{Upto, upto_trans, floor, key_over, key_floor, closed_floor, raised_floor}
use Rattle.method.proofs.Seen.{Standing, ClosedGood, Seen, see}
use Rattle.method.proofs.Opens.{Open}
use Rattle.method.proofs.Moves.{turned, rhs_falls, rhs_stays, Rested, rested}

pub record Pass (m : Meaning) (s : State) : Type 0 where
  -- no closed place is under
  pub not_under : (c : ℕ) → c < m.places → s.closed c ≡ true → rhs m s c ≤ s.g c
  -- the floor of no closed place comes after the key of an under place
  pub floors : (c u : ℕ) → c < m.places → u < m.places → s.closed c ≡ true → s.g u < rhs m s u → Upto (floor m s c) (floor m s u)
  -- every closed place keeps the slack
  pub good : ClosedGood m s

-- this place has the turn
pub record First (m : Meaning) (s : State) (p : ℕ) : Type 0 where
  pub stands_open : Open m s p
  pub least : (q : ℕ) → Open m s q → Upto (key m s p) (key m s q)

module _ (m : Meaning) (law : Lawful m) (s : State) (st : Standing m s) (pass : Pass m s) (p : ℕ) (turn : First m s p) (g : ℕ → ℕ) (closed : ℕ → Bool) (others : (q : ℕ) → (q ≡ p → ⊥) → g q ≡ s.g q) (rest : (q : ℕ) → (q ≡ p → ⊥) → closed q ≡ s.closed q) where
  -- an under place is open, so its floor is a key of an open place
  under_open : (u : ℕ) → u < m.places → s.g u < rhs m s u → Open m s u
  under_open u u_in low = record { place_in = u_in; not_level = λ e. omega arith; free = free (cases_Bool (s.closed u)) }
    where
      free : (s.closed u ≡ true) ⊎ (s.closed u ≡ false) → s.closed u ≡ false
      free (inl shut) = absurd (omega (arith, pass.not_under u u_in shut))
      free (inr f) = f

  after_first : (u : ℕ) → u < m.places → s.g u < rhs m s u → Upto (key m s p) (floor m s u)
  after_first u u_in low = subst (Upto (key m s p)) (key_floor m s u (omega arith)) (turn.least u (under_open u u_in low))

  floor_same : (q : ℕ) → (q ≡ p → ⊥) → floor m (turned s g closed) q ≡ floor m s q
  floor_same q d = ap (λ x. under_key x (m.estimate s.here q)) (others q d)

  -- an over place takes its rhs for its value and is closed
  module _ (is_over : rhs m s p < s.g p) (here : g p ≡ rhs m s p) (shut : closed p ≡ true) where
    lower : (q : ℕ) → g q ≤ s.g q
    lower q = elim (cases_eq q p) [ inl e ↦ omega (arith, ap g e, ap s.g e, here) | inr d ↦ omega (arith, others q d) ]

    falls : (q : ℕ) → rhs m (turned s g closed) q ≤ rhs m s q
    falls = rhs_falls m s (turned s g closed) (λ j. refl) refl lower

    now_level : rhs m (turned s g closed) p ≡ g p
    now_level = rhs_stays m s p g closed others here is_over ∙ sym here

    was_under : (u : ℕ) → g u < rhs m (turned s g closed) u → (u ≡ p → ⊥) × (s.g u < rhs m s u)
    was_under u low = let apart : u ≡ p → ⊥ = λ e. omega (arith, now_level, ap g e, ap (rhs m (turned s g closed)) e) in (apart, omega (arith, falls u, others u apart))

    was_closed : (c : ℕ) → closed c ≡ true → (c ≡ p) ⊎ ((c ≡ p → ⊥) × (s.closed c ≡ true))
    was_closed c h = elim (cases_eq c p) [ inl e ↦ inl e | inr d ↦ inr (d, sym (rest c d) ∙ h) ]

    -- otherwise a place with a smaller key would be open
    turn_good : (js : List ℕ) → Chain m p js s.landing → 16 * rhs m s p ≤ s.slack * sum_of s.cost js
    turn_good js chain = elim (cases_lt (s.slack * sum_of s.cost js) (16 * rhs m s p)) [
      | inl bad ↦ absurd (clash (see m law s st pass.good js p chain bad) bad)
      | inr fine ↦ fine
    ]
      where
        clash : Seen m s (sum_of s.cost js) p → s.slack * sum_of s.cost js < 16 * rhs m s p → ⊥
        clash seen bad =
            let u = seen.place in
            let o : Open m s u = record { place_in = seen.place_in; not_level = λ e. omega (arith, seen.is_over); free = seen.free } in
            let first = (turn.least u o).firsts in
            omega (arith, rw (key_over m s p is_over, key_over m s u seen.is_over) at first, seen.near, mul-add s.slack (sum_of s.cost js) (m.estimate s.here p))

    pub over_turn : Pass m (turned s g closed)
    over_turn = record {
      not_under = λ c c_in h. elim (was_closed c h) [
        | inl e ↦ omega (arith, now_level, ap g e, ap (rhs m (turned s g closed)) e)
        | inr d ↦ omega (arith, pass.not_under c c_in d.1, falls c, others c d.0)
      ];
      floors = λ c u c_in u_in h low. keep c u c_in u_in low (was_closed c h) (was_under u low);
      good = λ c c_in h js chain. elim (was_closed c h) [
        | inl e ↦ omega (arith, ap g e, here, turn_good js (subst (λ q. Chain m q js s.landing) e chain))
        | inr d ↦ omega (arith, others c d.0, pass.good c c_in d.1 js chain)
      ];
    }
      where
        keep : (c u : ℕ) → c < m.places → u < m.places → g u < rhs m (turned s g closed) u → (c ≡ p) ⊎ ((c ≡ p → ⊥) × (s.closed c ≡ true)) → (u ≡ p → ⊥) × (s.g u < rhs m s u) → Upto (floor m (turned s g closed) c) (floor m (turned s g closed) u)
        keep c u c_in u_in low (inl e) was =
            let own : floor m (turned s g closed) c ≡ under_key (rhs m s p) (m.estimate s.here p) = (λ i. under_key (g (e i)) (m.estimate s.here (e i))) ∙ ap (λ x. under_key x (m.estimate s.here p)) here in
            let step = upto_trans (closed_floor s.slack (rhs m s p) (m.estimate s.here p) st.slack_low) (subst (λ k. Upto k (floor m s u)) (key_over m s p is_over) (after_first u u_in was.1)) in
            rw (own, floor_same u was.0) step
        keep c u c_in u_in low (inr d) was = rw (floor_same c d.0, floor_same u was.0) (pass.floors c u c_in u_in d.1 was.1)

  -- an under place falls back to far
  module _ (is_under : s.g p < rhs m s p) (here : g p ≡ far) (free : closed p ≡ false) where
    higher : (q : ℕ) → s.g q ≤ g q
    higher q = elim (cases_eq q p) [ inl e ↦ omega (arith, ap g e, here, st.value_far q) | inr d ↦ omega (arith, others q d) ]

    rises : (q : ℕ) → rhs m s q ≤ rhs m (turned s g closed) q
    rises = rhs_falls m (turned s g closed) s (λ j. refl) refl higher

    apart : (c : ℕ) → closed c ≡ true → c ≡ p → ⊥
    apart c h e = true≢false (sym h ∙ ap closed e ∙ free)

    still : (c : ℕ) → closed c ≡ true → s.closed c ≡ true
    still c h = sym (rest c (apart c h)) ∙ h

    -- a place that became under through p has a floor after p's key, and so after every closed floor
    pub record After (u : ℕ) : Type 0 where
      pub other : u ≡ p → ⊥
      pub keeps : (c : ℕ) → c < m.places → s.closed c ≡ true → Upto (floor m s c) (floor m s u) × (c ≡ u → ⊥)

    below_p : (c : ℕ) → c < m.places → s.closed c ≡ true → Upto (floor m s c) (floor m s p)
    below_p c c_in h = pass.floors c p c_in turn.stands_open.place_in h is_under

    now_under : (u : ℕ) → u < m.places → g u < rhs m (turned s g closed) u → After u
    now_under u u_in low =
        let other : u ≡ p → ⊥ = λ e. omega (arith, ap g e, here, rhs_far m (turned s g closed) u) in
        elim (cases_lt (s.g u) (rhs m s u)) [
          | inl was ↦ record { other = other; keeps = λ c c_in h. (pass.floors c u c_in u_in h was, λ e. omega (arith, pass.not_under c c_in h, ap s.g e, ap (rhs m s) e)) }
          | inr was ↦ became other was (rested m s p g closed others u (omega (arith, others u other)))
        ]
      where
        became : (u ≡ p → ⊥) → rhs m s u ≤ s.g u → Rested m s p g closed others u → After u
        became other high r =
            let cost = s.cost r.arc in
            let pair = raised_floor (s.g u) (s.g p) cost (m.estimate s.here u) (m.estimate s.here p)
            (omega (arith, law.least_low r.arc r.arc_within, st.cost_low r.arc r.arc_within))
            (omega (arith, r.was))
            (omega (arith, law.estimate_step s.here r.arc st.here_within r.arc_within, st.cost_low r.arc r.arc_within, ap (m.estimate s.here) r.from, ap (m.estimate s.here) r.to)) in
            record {
              other = other;
              keeps = λ c c_in h.
                  let under_p = below_p c c_in h in
                  (record { firsts = omega (arith, under_p.firsts); seconds = λ e. omega (arith, under_p.seconds (omega (arith, under_p.firsts))) }, λ e. omega (arith, under_p.firsts, under_p.seconds (omega (arith, under_p.firsts, ap (λ q. (floor m s q).first) e)), ap (λ q. (floor m s q).first) e, ap (λ q. (floor m s q).second) e));
            }

    pub under_turn : Pass m (turned s g closed)
    under_turn = record {
      not_under = λ c c_in h. elim (cases_lt (g c) (rhs m (turned s g closed) c)) [
        | inl low ↦ absurd (((now_under c c_in low).keeps c c_in (still c h)).1 refl)
        | inr fine ↦ fine
      ];
      floors = λ c u c_in u_in h low.
          let after = now_under u u_in low in
          rw (floor_same c (apart c h), floor_same u after.other) (after.keeps c c_in (still c h)).0;
      good = λ c c_in h js chain. omega (arith, others c (apart c h), pass.good c c_in (still c h) js chain);
    }
