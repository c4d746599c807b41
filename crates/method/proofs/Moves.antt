-- What a change of values does to each rhs. Assumes nothing.
use Rattle.std.proofs.Common.{◌≡◌, ℕ, ◌+◌, ◌<◌, ◌≤◌, Bool, ◌⊎◌, sym, refl, ap, ◌∙◌, inl, inr, arith}
use Rattle.std.proofs.lemmas.Bool.{cases_eq, cases_lt}
use Rattle.terms.specs.Amounts.{far}
use Rattle.ground.specs.Meanings.{Meaning}
use Rattle.method.specs.States.{State}
use Rattle.method.specs.Values.{rhs}
use Rattle.method.proofs.Offers.{rhs_far, rhs_landing, rhs_offer, Offered, rhs_from}

-- the state after a turn that leaves these values and this Closed
abbrev pub turned : State → (ℕ → ℕ) → (ℕ → Bool) → State
turned s g closed = record { cost = s.cost; here = s.here; landing = s.landing; slack = s.slack; g = g; closed = closed; count = s.count + 1; phase = s.phase }

module _ (m : Meaning) (s t : State) (costs : (j : ℕ) → t.cost j ≡ s.cost j) (landings : t.landing ≡ s.landing) where
  -- lower values lower no rhs's neighbour's rhs: an rhs falls or stays
  pub rhs_falls : ((q : ℕ) → t.g q ≤ s.g q) → (p : ℕ) → rhs m t p ≤ rhs m s p
  rhs_falls lower p = elim (cases_eq p s.landing) [
    | inl e ↦ omega (arith, ap (rhs m t) (e ∙ sym landings), rhs_landing m t)
    | inr d ↦ elim (cases_lt (rhs m s p) far) [
      | inl low ↦ by (rhs_from m s p d low)
      | inr high ↦ omega (arith, rhs_far m t p)
    ]
  ]
    where
      by : Offered m s p → rhs m t p ≤ rhs m s p
      by o = omega (arith, rhs_offer m t o.arc o.arc_within, ap (rhs m t) o.from, o.is, lower (m.head o.arc), costs o.arc)

module _ (m : Meaning) (s : State) (p : ℕ) (g : ℕ → ℕ) (closed : ℕ → Bool) (others : (q : ℕ) → (q ≡ p → ⊥) → g q ≡ s.g q) where
  -- a place that takes its rhs for its value is level then: an arc back to itself costs something
  pub rhs_stays : g p ≡ rhs m s p → rhs m s p < s.g p → rhs m (turned s g closed) p ≡ rhs m s p
  rhs_stays here over = omega (arith, falls, rises (cases_eq p s.landing))
    where
      lower : (q : ℕ) → g q ≤ s.g q
      lower q = elim (cases_eq q p) [ inl e ↦ omega (arith, ap g e, ap s.g e) | inr d ↦ omega (arith, others q d) ]

      falls : rhs m (turned s g closed) p ≤ rhs m s p
      falls = rhs_falls m s (turned s g closed) (λ j. refl) refl lower p

      by : Offered m (turned s g closed) p → rhs m s p ≤ rhs m (turned s g closed) p
      by o = elim (cases_eq (m.head o.arc) p) [
        | inl e ↦ omega (arith, o.is, ap g e, here, rhs_far m s p)
        | inr d ↦ omega (arith, o.is, others (m.head o.arc) d, rhs_offer m s o.arc o.arc_within, ap (rhs m s) o.from)
      ]

      rises : (p ≡ s.landing) ⊎ (p ≡ s.landing → ⊥) → rhs m s p ≤ rhs m (turned s g closed) p
      rises (inl e) = omega (arith, ap (rhs m s) e, rhs_landing m s)
      rises (inr d) = elim (cases_lt (rhs m (turned s g closed) p) far) [
        | inl low ↦ by (rhs_from m (turned s g closed) p d low)
        | inr high ↦ omega (arith, rhs_far m s p)
      ]

  -- where an rhs rose since only one value changed, it rested on an arc to that place
  pub record Rested (q : ℕ) : Type 0 where
    pub arc : ℕ
    pub arc_within : arc < m.arcs
    pub from : m.tail arc ≡ q
    pub to : m.head arc ≡ p
    pub was : rhs m s q ≡ s.cost arc + s.g p

  pub rested : (q : ℕ) → rhs m s q < rhs m (turned s g closed) q → Rested q
  rested q rose = elim (cases_eq q s.landing) [
    | inl e ↦ absurd (omega (arith, ap (rhs m (turned s g closed)) e, rhs_landing m (turned s g closed)))
    | inr d ↦ by (rhs_from m s q d (omega (arith, rhs_far m (turned s g closed) q)))
  ]
    where
      by : Offered m s q → Rested q
      by o = elim (cases_eq (m.head o.arc) p) [
        | inl e ↦ record {
          arc = o.arc;
          arc_within = o.arc_within;
          from = o.from;
          to = e;
          was = omega (arith, o.is, ap s.g e, rhs_far m (turned s g closed) q);
        }
        | inr d ↦ absurd (omega (arith, rhs_offer m (turned s g closed) o.arc o.arc_within, ap (rhs m (turned s g closed)) o.from, others (m.head o.arc) d, o.is))
      ]
