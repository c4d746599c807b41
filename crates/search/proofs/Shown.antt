-- What tables that show a state say of its places. Assumes nothing.
use Rattle.std.proofs.Common.{◌≡◌, ℕ, ◌<◌, true, not, eqb, List, sym, ◌∙◌}
use Rattle.std.proofs.lemmas.Bool.{and_parts, and_from, not-true, not_from_false, eqb-false, ne_eqb}
use Rattle.ground.specs.Meanings.{Meaning, Lawful}
use Rattle.method.specs.States.{State}
use Rattle.method.specs.Values.{rhs}
use Rattle.method.specs.Keys.{key}
use Rattle.method.specs.Laws.{Waits}
use Rattle.search.proofs.Agreeing.{shown_rhs}
use Rattle.search.specs.declared.aim.Aim.{Aim}
use Rattle.search.specs.declared.place.Place.{Place}
use Rattle.search.specs.Queued.{is_waiting, key_for}
use Rattle.search.specs.Tables.{place_at, Shows, Cached}

module _ (m : Meaning) (law : Lawful m) (aim : Aim) (costs : List ℕ) (places : List Place) (s : State) (sh : Shows m s aim costs places) where
  module _ (cached : Cached m aim costs places) where
    pub rhs_stored : (p : ℕ) → p < m.places → (place_at places p).rhs ≡ rhs m s p
    rhs_stored p h = cached p h ∙ shown_rhs m law s aim costs places sh p

    -- the key that is told of a place is its key
    pub key_stored : (p : ℕ) → p < m.places → key_for aim.slack.sixteenths (m.estimate aim.here p) (place_at places p) ≡ key m s p
    unfolding key
    key_stored p h =
        let value = sh.values_are p h in
        let rests = rhs_stored p h in
        let here = sh.here_is in
        let slack = sh.slack_is in
        cc

    pub told_waits : (p : ℕ) → p < m.places → is_waiting (place_at places p) ≡ true → Waits m s p
    told_waits p h w =
        let both = and_parts (not (eqb (place_at places p).g (place_at places p).rhs)) (not (place_at places p).closed) w in
        record {
          place_in = h;
          not_level = λ e. eqb-false _ _ (not-true _ both.0) (sh.values_are p h ∙ e ∙ sym (rhs_stored p h));
          free = sym (sh.closed_are p h) ∙ not-true _ both.1;
        }

    pub waits_told : (p : ℕ) → Waits m s p → is_waiting (place_at places p) ≡ true
    waits_told p w =
        let h = w.place_in in
        and_from _ _
        (not_from_false _ (ne_eqb _ _ (λ e. w.not_level (sym (sh.values_are p h) ∙ e ∙ rhs_stored p h))))
        (not_from_false _ (sh.closed_are p h ∙ w.free))
