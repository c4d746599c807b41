-- Following the smallest offers leads to the landing, and passes no place twice. Assumes nothing.
use Rattle.std.proofs.Common.{◌≡◌, ℕ, zero, suc, ◌+◌, ◌<◌, ◌≤◌, cond, eqb, ltb, List, [], length, Some, None, Option, refl, ap, inl, inr, arith}
use Rattle.std.specs.List.{AllByRecursion}
use Rattle.std.proofs.ByRecursion.{All-weaker}
use Rattle.std.proofs.lemmas.Bool.{cases_eq, cases_lt, cond-true, cond-false, cond_both, eq-eqb, ne_eqb, lt-ltb, le-ltb, ltb-true, ltb-false}
use Rattle.terms.specs.Amounts.{far}
use Rattle.ground.specs.Meanings.{Meaning, Lawful}
use Rattle.ground.specs.Questions.{arcs_from}
use Rattle.ground.specs.Chains.{Chain, passes, sum_of}
use Rattle.method.specs.States.{State}
use Rattle.method.specs.Values.{offer, rhs}
use Rattle.method.specs.Calls.{cheapest, onward, follow}
use Rattle.method.specs.Promise.{Once}
use Rattle.method.proofs.Bests.{best_none, Ranks, best_least}
use Rattle.method.proofs.Offers.{leaves, left_by, rhs_offer, Offered, rhs_from}
use Rattle.method.proofs.Seen.{Standing}
use Rattle.method.proofs.Weights.{total}

-- offers rank arcs
offer_ranks : (f : ℕ → ℕ) → Ranks (λ i j. ltb (f i) (f j)) (λ i j. f i ≤ f j)
offer_ranks f = record {
  same = λ i. omega arith;
  wins = λ i j h. omega (arith, ltb-true (f i) (f j) h);
  holds = λ i j h. ltb-false (f i) (f j) h;
  carries = λ i j k h l. omega arith;
}

-- the arc that a route takes from a place: it costs what the rhs says, less the value of its head
pub record Step (m : Meaning) (s : State) (p j : ℕ) : Type 0 where
  pub arc_within : j < m.arcs
  pub from : m.tail j ≡ p
  pub adds : s.cost j + s.g (m.head j) ≡ rhs m s p

pub step_taken : (m : Meaning) (s : State) (p : ℕ) → (p ≡ s.landing → ⊥) → rhs m s p < far → (j : ℕ) × (cheapest (offer m s) (arcs_from m p) ≡ Some j) × Step m s p j
step_taken m s p away low = go (cheapest (offer m s) (arcs_from m p)) refl (rhs_from m s p away low)
  where
    go : (r : Option ℕ) → cheapest (offer m s) (arcs_from m p) ≡ r → Offered m s p → (j : ℕ) × (cheapest (offer m s) (arcs_from m p) ≡ Some j) × Step m s p j
    go None n o = absurd (best_none (λ i j. ltb (offer m s i) (offer m s j)) (arcs_from m p) n o.arc (leaves m p o.arc o.arc_within o.from))
    go (Some j) n o =
        let so = best_least (λ i j. ltb (offer m s i) (offer m s j)) (λ i j. offer m s i ≤ offer m s j) (offer_ranks (offer m s)) (arcs_from m p) j n in
        let at = left_by m p j so.among in
        let below = so.least o.arc (leaves m p o.arc o.arc_within o.from) in
        let least = rhs_offer m s j at.0 in
        (j, n, record { arc_within = at.0; from = at.1; adds = omega (arith, ap (rhs m s) at.1, o.is) })

-- how many places have a smaller value
abbrev pub smaller : State → ℕ → ℕ → ℕ
smaller s p q = cond (ltb (s.g q) (s.g p)) 1 0

abbrev pub rank : Meaning → State → ℕ → ℕ
rank m s p = total (smaller s p) m.places

total_less : (w v : ℕ → ℕ) (n p : ℕ) → p < n → ((q : ℕ) → v q ≤ w q) → v p < w p → total v n + 1 ≤ total w n
total_less w v zero p h lower there = absurd (omega arith)
total_less w v (suc n) p h lower there = elim (cases_eq n p) [
  | inl e ↦ omega (arith, ap v e, ap w e, each n)
  | inr d ↦ omega (arith, lower n, total_less w v n p (omega arith) lower there)
]
  where
    each : (k : ℕ) → total v k ≤ total w k
    each zero = omega arith
    each (suc k) = omega (arith, lower k, each k)

total_ones : (n : ℕ) → total (λ _. 1) n ≡ n
total_ones zero = refl
total_ones (suc n) = omega (arith, total_ones n)

module _ (m : Meaning) (s : State) where
  pub rank_below : (p : ℕ) → p < m.places → rank m s p < m.places
  rank_below p h =
      omega (arith, total_less (λ _. 1) (smaller s p) m.places p h (λ q. cond_both (ltb (s.g q) (s.g p)) 1 0 (λ n. n ≤ 1) (λ _. omega arith) (λ _. omega arith)) (omega (arith, cond-false {A = ℕ} (ltb (s.g p) (s.g p)) 1 0 (le-ltb _ _ (omega arith)))), total_ones m.places)

  pub rank_falls : (p t : ℕ) → t < m.places → s.g t < s.g p → rank m s t < rank m s p
  rank_falls p t h low =
      omega (arith, total_less (smaller s p) (smaller s t) m.places t h each (omega (arith, cond-false {A = ℕ} (ltb (s.g t) (s.g t)) 1 0 (le-ltb _ _ (omega arith)), cond-true {A = ℕ} (ltb (s.g t) (s.g p)) 1 0 (lt-ltb _ _ low))))
    where
      each : (q : ℕ) → smaller s t q ≤ smaller s p q
      each q = elim (cases_lt (s.g q) (s.g t)) [
        | inl l ↦ omega (arith, cond-true {A = ℕ} (ltb (s.g q) (s.g t)) 1 0 (lt-ltb _ _ l), cond-true {A = ℕ} (ltb (s.g q) (s.g p)) 1 0 (lt-ltb _ _ (omega arith)))
        | inr l ↦ omega (arith, cond-false {A = ℕ} (ltb (s.g q) (s.g t)) 1 0 (le-ltb _ _ l))
      ]

  -- a route from p to the landing
  pub record Arrives (p : ℕ) (js : List ℕ) : Type 0 where
    pub chain : Chain m p js s.landing
    pub open_arcs : AllByRecursion (λ j. s.cost j < far) js
    pub sum_low : sum_of s.cost js ≤ rhs m s p
    pub falling : AllByRecursion (λ q. s.g q ≤ s.g p) (passes m p js)
    pub once : Once (passes m p js)
    pub short : length js ≤ rank m s p

  -- places from which a route goes on: not under, with a value below far, and so is the next
  pub record Goes (Safe : ℕ → Type 0) : Type 0 where
    pub place_in : (p : ℕ) → Safe p → p < m.places
    pub not_under : (p : ℕ) → Safe p → rhs m s p ≤ s.g p
    pub below : (p : ℕ) → Safe p → s.g p < far
    pub on : (p j : ℕ) → Safe p → Step m s p j → Safe (m.head j)

module _ (m : Meaning) (law : Lawful m) (s : State) (st : Standing m s) (Safe : ℕ → Type 0) (goes : Goes m s Safe) where
  pub arrive : (fuel p : ℕ) → rank m s p < fuel → Safe p → Arrives m s p (follow m s fuel p)
  unfolding follow
  arrive zero p r safe = absurd (omega arith)
  arrive (suc fuel) p r safe = elim (cases_eq p s.landing) [ inl e ↦ there e | inr away ↦ onwards away (step_taken m s p away (omega (arith, goes.not_under p safe, goes.below p safe))) (arrive fuel) ]
    where
      there : p ≡ s.landing → Arrives m s p (cond (eqb p s.landing) [] (onward (cheapest (offer m s) (arcs_from m p)) (λ j. follow m s fuel (m.head j))))
      there e = rw (eq-eqb p s.landing e) (record { chain = (goes.place_in p safe, e); open_arcs = tt; sum_low = omega arith; falling = (omega arith, tt); once = (tt, tt); short = omega arith })

      onwards : (p ≡ s.landing → ⊥) → (j : ℕ) × (cheapest (offer m s) (arcs_from m p) ≡ Some j) × Step m s p j → ((t : ℕ) → rank m s t < fuel → Safe t → Arrives m s t (follow m s fuel t)) → Arrives m s p (cond (eqb p s.landing) [] (onward (cheapest (offer m s) (arcs_from m p)) (λ j. follow m s fuel (m.head j))))
      onwards away (j, taken, step) more =
          let t = m.head j in
          let safe_t = goes.on p j safe step in
          let in_t = law.head_in j step.arc_within in
          let low : s.g t < s.g p = omega (arith, step.adds, goes.not_under p safe, law.least_low j step.arc_within, st.cost_low j step.arc_within) in
          let rest = more t (omega (arith, rank_falls m s p t in_t low)) safe_t in
          rw (ne_eqb p s.landing away, taken) (record {
            chain = (step.arc_within, step.from, rest.chain);
            open_arcs = (omega (arith, step.adds, goes.not_under p safe, goes.below p safe), rest.open_arcs);
            sum_low = omega (arith, step.adds, rest.sum_low, goes.not_under t safe_t);
            falling = (omega arith, All-weaker (λ q. s.g q ≤ s.g t) (λ q. s.g q ≤ s.g p) (λ q h. omega arith) (passes m t (follow m s fuel t)) rest.falling);
            once = (All-weaker (λ q. s.g q ≤ s.g t) (λ q. q ≡ p → ⊥) (λ q h e. omega (arith, ap s.g e)) (passes m t (follow m s fuel t)) rest.falling, rest.once);
            short = omega (arith, rest.short, rank_falls m s p t in_t low);
          })
