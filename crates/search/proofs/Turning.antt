-- What a turn at a place makes of tables that show a state. Assumes nothing.
use Rattle.std.proofs.Common.{◌≡◌, ℕ, ◌<◌, ◌≤◌, Bool, true, false, cond, ◌||◌, eqb, List, sym, ap, ◌∙◌, inl, inr, arith}
use Rattle.ground.specs.Meanings.{Meaning, Lawful}
use Rattle.method.specs.States.{State, put}
use Rattle.method.specs.Turns.{turn_taken}
use Rattle.method.specs.Values.{over, rhs}
use Rattle.queue.specs.declared.entry.Entry.{Entry}
use Rattle.queue.specs.declared.key.Key.{Key}
use Rattle.std.proofs.lemmas.Bool.{cases_eq, cond-true, cond-false, eq-eqb, ne_eqb, lt-ltb, le-ltb}
use Rattle.terms.specs.Amounts.{far}
use Rattle.search.specs.declared.aim.Aim.{Aim}
use Rattle.search.specs.declared.place.Place.{Place}
use Rattle.search.specs.Steps.{TurnMade}
use Rattle.search.specs.Tables.{Cached, place_at, Shows}
use Rattle.search.specs.Turning.{StaysSynced, Turned}
use Rattle.search.proofs.Agreeing.{shown_rhs}

put_at : {X : Type 0} (f : ℕ → X) (p : ℕ) (x : X) (now : ℕ → X) → now p ≡ x → (q : ℕ) → ((q ≡ p → ⊥) → now q ≡ f q) → now q ≡ put f p x q
put_at f p x now here q others = elim (cases_eq q p) [
  | inl i ↦ (ap now i ∙ here ∙ sym (cond-true (eqb q p) x (f q) (eq-eqb q p i)))
  | inr d ↦ (others d ∙ sym (cond-false (eqb q p) x (f q) (ne_eqb q p d)))
]

module _ (m : Meaning) (lawful : Lawful m) (aim : Aim) (costs : List ℕ) (p : ℕ) (within : p < m.places) (places : List Place) (es : List (Entry Key)) (places' : List Place) (es' : List (Entry Key)) where
  module _ (s : State) (shows : Shows m s aim costs places) (value : ℕ) (closed : Bool) (t : Turned m aim costs p value closed places places') where
    turned_shows : value ≡ cond (over m s p) (rhs m s p) far → closed ≡ (over m s p || s.closed p) → Shows m (turn_taken m s p) aim costs places'
    unfolding turn_taken
    turned_shows v c = record {
      costs_are = shows.costs_are;
      values_are = λ q h. put_at s.g p (cond (over m s p) (rhs m s p) far) (λ x. (place_at places' x).g) (t.value_is ∙ v) q (λ d. t.values q d ∙ shows.values_are q h);
      closed_are = λ q h. put_at s.closed p (over m s p || s.closed p) (λ x. (place_at places' x).closed) (t.closed_is ∙ c) q (λ d. t.closeds q d ∙ shows.closed_are q h);
      here_is = shows.here_is;
      landing_is = shows.landing_is;
      slack_is = shows.slack_is;
    }

  stored_is : (s : State) → Shows m s aim costs places → Cached m aim costs places → (place_at places p).rhs ≡ rhs m s p
  stored_is s shows c = c p within ∙ shown_rhs m lawful s aim costs places shows p

  made : (value : ℕ) (closed : Bool) → ((s : State) → Shows m s aim costs places → Cached m aim costs places → (value ≡ cond (over m s p) (rhs m s p) far) × (closed ≡ (over m s p || s.closed p))) → Turned m aim costs p value closed places places' → StaysSynced m aim places es places' es' → TurnMade m aim costs p places es places' es'
  made value closed is t synced = record {
    shows = λ s shows c. turned_shows s shows value closed t (is s shows c).0 (is s shows c).1;
    in_step = λ i. record { cached = t.cached i.cached; synced = synced i.synced };
  }

  pub over_made : (place_at places p).rhs < (place_at places p).g → Turned m aim costs p (place_at places p).rhs true places places' → StaysSynced m aim places es places' es' → TurnMade m aim costs p places es places' es'
  over_made l = made (place_at places p).rhs true (λ s shows c.
      let e : (place_at places p).rhs ≡ rhs m s p = stored_is s shows c in
      let above : over m s p ≡ true = lt-ltb (rhs m s p) (s.g p) (omega (arith, shows.values_are p within)) in
      (e ∙ sym (cond-true {A = ℕ} (over m s p) (rhs m s p) far above), sym (ap (λ b. b || s.closed p) above)))

  pub under_made : (place_at places p).g ≤ (place_at places p).rhs → Turned m aim costs p far (place_at places p).closed places places' → StaysSynced m aim places es places' es' → TurnMade m aim costs p places es places' es'
  under_made l = made far (place_at places p).closed (λ s shows c.
      let e : (place_at places p).rhs ≡ rhs m s p = stored_is s shows c in
      let below : over m s p ≡ false = le-ltb (rhs m s p) (s.g p) (omega (arith, shows.values_are p within)) in
      (sym (cond-false {A = ℕ} (over m s p) (rhs m s p) far below), shows.closed_are p within ∙ sym (ap (λ b. b || s.closed p) below)))
