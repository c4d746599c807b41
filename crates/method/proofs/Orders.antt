-- The order of keys, and what the argument of the route promise uses of them. Assumes nothing.
use Rattle.std.proofs.Common.{◌≡◌, ℕ, ◌+◌, ◌*◌, ◌<◌, ◌≤◌, true, false, ◌&&◌, eqb, ltb, ◌⊎◌, sym, inl, inr, mul-le-mul_right, arith}
use Rattle.std.proofs.lemmas.Bool.{cases_Bool, cond-true, cond-false, ltb-true, ltb-false, lt-ltb, le-ltb, eqb-true, eqb-false, or_cases, or_parts, or_left, or_right, and_parts, and_cases, and_from, eq-eqb}
use Rattle.ground.specs.Meanings.{Meaning}
use Rattle.method.specs.States.{State}
use Rattle.method.specs.Values.{rhs, over}
use Rattle.method.specs.Keys.{Key, before, over_key, under_key, key}

-- k does not come after l
pub record Upto (k l : Key) : Type 0 where
  pub firsts : k.first ≤ l.first
  pub seconds : k.first ≡ l.first → k.second ≤ l.second

pub upto_trans : {k l r : Key} → Upto k l → Upto l r → Upto k r
upto_trans a b = record { firsts = omega (arith, a.firsts, b.firsts); seconds = λ e. omega (arith, a.seconds (omega (arith, a.firsts, b.firsts)), b.seconds (omega (arith, a.firsts, b.firsts))) }

-- what it says that a key comes before another
pub strict : (k l : Key) → before k l ≡ true → (k.first ≤ l.first) × (k.first ≡ l.first → k.second < l.second)
strict k l h = go (or_cases _ _ h)
  where
    go : (ltb k.first l.first ≡ true) ⊎ ((eqb k.first l.first && ltb k.second l.second) ≡ true) → (k.first ≤ l.first) × (k.first ≡ l.first → k.second < l.second)
    go (inl t) = let lt = ltb-true k.first l.first t in (omega arith, λ e. omega arith)
    go (inr t) =
        let both = and_parts (eqb k.first l.first) (ltb k.second l.second) t in
        let same = eqb-true k.first l.first both.0 in
        let lt = ltb-true k.second l.second both.1 in
        (omega arith, λ e. lt)

-- l does not come before k
pub not_before : (k l : Key) → before l k ≡ false → Upto k l
not_before k l h =
    let parts = or_parts _ _ h in
    record {
      firsts = ltb-false l.first k.first parts.0;
      seconds = λ e. equal e (and_cases (eqb l.first k.first) (ltb l.second k.second) parts.1);
    }
  where
    equal : k.first ≡ l.first → (eqb l.first k.first ≡ false) ⊎ (ltb l.second k.second ≡ false) → k.second ≤ l.second
    equal e (inl d) = absurd (eqb-false _ _ d (sym e))
    equal e (inr d) = ltb-false _ _ d

-- a smaller first number, or an equal one and a smaller second, comes before
pub first_before : (k l : Key) → k.first < l.first → before k l ≡ true
first_before k l h = or_left _ _ (lt-ltb _ _ h)

pub second_before : (k l : Key) → k.first ≤ l.first → k.second < l.second → before k l ≡ true
second_before k l h e = elim (cases_Bool (ltb k.first l.first)) [
  | inl t ↦ or_left _ _ t
  | inr f ↦ or_right (ltb k.first l.first) _ (and_from _ _ (eq-eqb _ _ (omega (arith, ltb-false k.first l.first f))) (lt-ltb _ _ e))
]

module _ (m : Meaning) (s : State) where
  -- the key that a place has while it is not over
  abbrev pub floor : ℕ → Key
  floor p = under_key (s.g p) (m.estimate s.here p)

  pub key_over : (p : ℕ) → rhs m s p < s.g p → key m s p ≡ over_key s.slack (rhs m s p) (m.estimate s.here p)
  unfolding key
  key_over p h = cond-true (over m s p) _ _ (lt-ltb _ _ h)

  pub key_floor : (p : ℕ) → s.g p ≤ rhs m s p → key m s p ≡ floor p
  unfolding key
  key_floor p h = cond-false (over m s p) _ _ (le-ltb _ _ h)

-- what the argument uses of the keys. Another key has to keep these three.

-- of an over place, once it has its rhs for its value: its floor does not come after the key it had
pub closed_floor : (slack value estimate : ℕ) → 16 ≤ slack → Upto (under_key value estimate) (over_key slack value estimate)
closed_floor slack value estimate h = record { firsts = omega (arith, mul-le-mul_right estimate h); seconds = λ _. omega arith }

-- of a place whose value is at least the cost of an arc and the value of its head: its floor comes after the head's
pub raised_floor : (p v c at_p at_v : ℕ) → 1 ≤ c → c + v ≤ p → at_v ≤ at_p + c → ((under_key v at_v).first ≤ (under_key p at_p).first) × ((under_key v at_v).second < (under_key p at_p).second)
raised_floor p v c at_p at_v low h e = (omega arith, omega arith)

-- of a place from which the way seems no longer than from here, with a smaller value: its floor comes before here's
pub nearer_floor : (p h at_p : ℕ) → 16 * p + 16 * at_p ≤ 16 * h → p < h → before (under_key p at_p) (under_key h 0) ≡ true
nearer_floor p h at_p f l = second_before (under_key p at_p) (under_key h 0) (omega arith) l
