-- The rhs of a place by its facts: 0 at the landing, at most each offer, and one of the offers where it is below far. Assumes nothing.
use Rattle.std.proofs.Common.{◌≡◌, ℕ, ◌<◌, ◌≤◌, eqb, List, [], ◌∷◌, map, refl, ap, ◌∙◌, inl, inr, arith}
use Rattle.std.proofs.lemmas.Bool.{cases_eq, cases_lt, cond-true, cond-false, eq-eqb, ne_eqb, eqb-true}
use Rattle.terms.specs.Amounts.{far}
use Rattle.ground.specs.Meanings.{Meaning}
use Rattle.ground.specs.Questions.{arcs_from, arcs_at}
use Rattle.method.specs.States.{State}
use Rattle.method.specs.Values.{smallest, offer, rhs}
use Rattle.method.proofs.Members.{Member, kept_member, member_kept}

pub smallest_far : (xs : List ℕ) → smallest xs ≤ far
smallest_far [] = omega arith
smallest_far (x ∷ xs) = omega (arith, smallest_far xs)

smallest_le : (f : ℕ → ℕ) (xs : List ℕ) (x : ℕ) → Member x xs → smallest (map f xs) ≤ f x
smallest_le f [] x h = absurd h
smallest_le f (y ∷ xs) x (inl e) = omega (arith, ap f e)
smallest_le f (y ∷ xs) x (inr h) = omega (arith, smallest_le f xs x h)

smallest_at : (f : ℕ → ℕ) (xs : List ℕ) → smallest (map f xs) < far → (x : ℕ) × Member x xs × (smallest (map f xs) ≡ f x)
smallest_at f [] h = absurd (omega arith)
smallest_at f (y ∷ xs) h = elim (cases_lt (smallest (map f xs)) (f y)) [ inl l ↦ later l (smallest_at f xs (omega arith)) | inr l ↦ (y, inl refl, omega arith) ]
  where
    later : smallest (map f xs) < f y → (x : ℕ) × Member x xs × (smallest (map f xs) ≡ f x) → (x : ℕ) × Member x (y ∷ xs) × (smallest (map f (y ∷ xs)) ≡ f x)
    later l (x, k, e) = (x, inr k, omega arith)

-- the arcs that leave a place
pub leaves : (m : Meaning) (p j : ℕ) → j < m.arcs → m.tail j ≡ p → Member j (arcs_from m p)
unfolding arcs_at
leaves m p j h e = kept_member (λ i. eqb (m.tail i) p) 0 m.arcs j (omega arith) (omega arith) (eq-eqb _ _ e)

pub left_by : (m : Meaning) (p j : ℕ) → Member j (arcs_from m p) → (j < m.arcs) × (m.tail j ≡ p)
unfolding arcs_at
left_by m p j h = let k = member_kept (λ i. eqb (m.tail i) p) 0 m.arcs j h in (omega (arith, k.upto), eqb-true _ _ k.passes)

module _ (m : Meaning) (s : State) where
  pub rhs_far : (p : ℕ) → rhs m s p ≤ far
  unfolding rhs
  rhs_far p = elim (cases_eq p s.landing) [
    | inl e ↦ (rw (cond-true {A = ℕ} (eqb p s.landing) 0 (smallest (map (offer m s) (arcs_from m p))) (eq-eqb _ _ e)) (omega arith))
    | inr d ↦ (rw (cond-false {A = ℕ} (eqb p s.landing) 0 (smallest (map (offer m s) (arcs_from m p))) (ne_eqb _ _ d)) (smallest_far _))
  ]

  pub rhs_landing : rhs m s s.landing ≡ 0
  unfolding rhs
  rhs_landing = cond-true {A = ℕ} (eqb s.landing s.landing) 0 (smallest (map (offer m s) (arcs_from m s.landing))) (eq-eqb s.landing s.landing refl)

  pub away : (p : ℕ) → (p ≡ s.landing → ⊥) → rhs m s p ≡ smallest (map (offer m s) (arcs_from m p))
  unfolding rhs
  away p d = cond-false {A = ℕ} _ _ _ (ne_eqb _ _ d)

  pub rhs_offer : (j : ℕ) → j < m.arcs → rhs m s (m.tail j) ≤ offer m s j
  rhs_offer j h = elim (cases_eq (m.tail j) s.landing) [
    | inl e ↦ omega (arith, ap (rhs m s) e, rhs_landing)
    | inr d ↦ omega (arith, away (m.tail j) d, smallest_le (offer m s) (arcs_from m (m.tail j)) j (leaves m (m.tail j) j h refl))
  ]

  -- where a place other than the landing has a rhs below far, an arc offers it
  pub record Offered (p : ℕ) : Type 0 where
    pub arc : ℕ
    pub arc_within : arc < m.arcs
    pub from : m.tail arc ≡ p
    pub is : rhs m s p ≡ offer m s arc

  pub rhs_from : (p : ℕ) → (p ≡ s.landing → ⊥) → rhs m s p < far → Offered p
  rhs_from p d h = found (smallest_at (offer m s) (arcs_from m p) (omega (arith, away p d)))
    where
      found : (x : ℕ) × Member x (arcs_from m p) × (smallest (map (offer m s) (arcs_from m p)) ≡ offer m s x) → Offered p
      found (x, k, e) = let in' = left_by m p x k in record { arc = x; arc_within = in'.0; from = in'.1; is = away p d ∙ e }
