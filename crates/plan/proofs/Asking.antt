-- Route and Sum: what the tables tell is what the state says. Assumes nothing.
use Rattle.std.proofs.Common.{◌≡◌, ℕ, zero, suc, ◌<◌, Bool, true, false, cond, eqb, ltb, List, [], ◌∷◌, Some, None, Option, refl, ap, ◌∙◌, inl, inr}
use Rattle.std.proofs.lemmas.Bool.{and_parts, and_from, ltb-true, lt-ltb}
use Rattle.terms.specs.Amounts.{◌⊕◌}
use Rattle.ground.specs.Meanings.{Meaning, Lawful}
use Rattle.ground.specs.Questions.{arcs_from}
use Rattle.method.proofs.Bests.{best_member}
use Rattle.method.proofs.Members.{Member}
use Rattle.method.proofs.Offers.{left_by}
use Rattle.method.specs.Calls.{capped_sum, cheapest, follow, onward}
use Rattle.method.specs.Choices.{best, better}
use Rattle.method.specs.States.{State}
use Rattle.method.specs.Turns.{all_of}
use Rattle.method.specs.Values.{offer}

-- the best by two tests that agree on the list
best_same : (a b : ℕ → ℕ → Bool) (xs : List ℕ) → ((x y : ℕ) → Member x xs → Member y xs → a x y ≡ b x y) → best a xs ≡ best b xs
best_same a b [] h = refl
best_same a b (x ∷ xs) h = ap (better a x) (best_same a b xs (λ y z k l. h y z (inr k) (inr l))) ∙ go (best b xs) refl
  where
    go : (r : Option ℕ) → best b xs ≡ r → better a x r ≡ better b x r
    go None n = refl
    go (Some y) n = ap (λ t. cond t (Some y) (Some x)) (h y x (inr (best_member b xs y n)) (inl refl))

pub capped_same : (f g : ℕ → ℕ) (arcs : ℕ) → ((j : ℕ) → j < arcs → f j ≡ g j) → (js : List ℕ) → all_of (λ j. ltb j arcs) js ≡ true → capped_sum f js ≡ capped_sum g js
capped_same f g arcs same [] h = refl
capped_same f g arcs same (j ∷ js) h =
    let both = and_parts (ltb j arcs) (all_of (λ i. ltb i arcs) js) h in
    λ i. same j (ltb-true _ _ both.0) i ⊕ capped_same f g arcs same js both.1 i

module _ (m : Meaning) (law : Lawful m) (s t : State) (landings : t.landing ≡ s.landing) (costs : (j : ℕ) → j < m.arcs → t.cost j ≡ s.cost j) (values : (p : ℕ) → p < m.places → t.g p ≡ s.g p) where
  offers : (p j : ℕ) → Member j (arcs_from m p) → offer m t j ≡ offer m s j
  offers p j h = let at = left_by m p j h in λ i. costs j at.0 i ⊕ values (m.head j) (law.head_in j at.0) i

  cheapest_same : (p : ℕ) → cheapest (offer m t) (arcs_from m p) ≡ cheapest (offer m s) (arcs_from m p)
  cheapest_same p = best_same (λ i j. ltb (offer m t i) (offer m t j)) (λ i j. ltb (offer m s i) (offer m s j)) (arcs_from m p) (λ i j h k. λ x. ltb (offers p i h x) (offers p j k x))

  -- states that agree on the ground have one route
  pub follow_same : (arcs p : ℕ) → follow m t arcs p ≡ follow m s arcs p
  unfolding follow
  follow_same zero p = refl
  follow_same (suc arcs) p = λ i. cond (eqb p (landings i)) [] (on (follow_same arcs) i)
    where
      rest : ((q : ℕ) → follow m t arcs q ≡ follow m s arcs q) → (o : Option ℕ) → onward o (λ j. follow m t arcs (m.head j)) ≡ onward o (λ j. follow m s arcs (m.head j))
      rest more None = refl
      rest more (Some j) = ap (λ js. j ∷ js) (more (m.head j))

      on : ((q : ℕ) → follow m t arcs q ≡ follow m s arcs q) → onward (cheapest (offer m t) (arcs_from m p)) (λ j. follow m t arcs (m.head j)) ≡ onward (cheapest (offer m s) (arcs_from m p)) (λ j. follow m s arcs (m.head j))
      on more = ap (λ o. onward o (λ j. follow m t arcs (m.head j))) (cheapest_same p) ∙ rest more (cheapest (offer m s) (arcs_from m p))

-- a route is made of arcs of the ground
pub follow_in : (m : Meaning) (s : State) (arcs p : ℕ) → all_of (λ j. ltb j m.arcs) (follow m s arcs p) ≡ true
unfolding follow
follow_in m s zero p = refl
follow_in m s (suc arcs) p = go (eqb p s.landing) (cheapest (offer m s) (arcs_from m p)) refl (follow_in m s arcs)
  where
    go : (b : Bool) (o : Option ℕ) → cheapest (offer m s) (arcs_from m p) ≡ o → ((q : ℕ) → all_of (λ j. ltb j m.arcs) (follow m s arcs q) ≡ true) → all_of (λ j. ltb j m.arcs) (cond b [] (onward o (λ j. follow m s arcs (m.head j)))) ≡ true
    go true o e more = refl
    go false None e more = refl
    go false (Some j) e more = and_from _ _ (lt-ltb _ _ (left_by m p j (best_member (λ i k. ltb (offer m s i) (offer m s k)) (arcs_from m p) j e)).0) (more (m.head j))
