-- Where the turns of a search start. Assumes nothing.
use Rattle.std.proofs.Common.{◌≡◌, ℕ, ◌<◌, Bool, true, false, cond, List, length, sym, refl, ap, ◌∙◌, subst, arith}
use Rattle.std.proofs.lemmas.Bool.{cond-true, cond-false}
use Rattle.ground.specs.Meanings.{Meaning, Lawful}
use Rattle.method.specs.Calls.{emptied}
use Rattle.method.specs.States.{State}
use Rattle.queue.specs.declared.entry.Entry.{Entry}
use Rattle.queue.specs.declared.key.Key.{Key}
use Rattle.search.specs.declared.aim.Aim.{Aim}
use Rattle.search.specs.declared.made.Made.{Made}
use Rattle.search.specs.declared.place.Place.{Place}
use Rattle.search.specs.Queued.{Synced}
use Rattle.search.specs.Steps.{InStep, SearchMade, StartedAfresh}
use Rattle.search.specs.Tables.{place_at, told, Shows, Cached}
use Rattle.search.proofs.Agreeing.{rhs_same}

-- the tables are in step, and show the state that the turns start at
pub record Ready (m : Meaning) (aim : Aim) (afresh : Bool) (costs : List ℕ) (places : List Place) (es : List (Entry Key)) (s : State) : Type 0 where
  pub in_step : InStep m aim costs places es
  pub shows : Shows m (cond afresh (emptied m s) s) aim costs places

module _ (m : Meaning) (law : Lawful m) (aim : Aim) (costs : List ℕ) (places places' : List Place) (es' : List (Entry Key)) (fits : length places ≡ m.places) (cached : Cached m aim costs places) (s : State) (sh : Shows m s aim costs places) where
  -- started afresh
  module _ (started : StartedAfresh m aim places places' es') where
    value_same : (p : ℕ) → p < m.places → (place_at places p).g ≡ (place_at places' p).g
    value_same p h = sym (ap (λ (z : Place). z.g) (started.reopens p (omega arith)))

    cached' : Cached m aim costs places'
    cached' p h =
        ap (λ (z : Place). z.rhs) (started.reopens p (omega arith)) ∙ cached p h
        ∙ rhs_same m law (told aim costs places) (told aim costs places') (λ j k. refl) value_same refl p

    shows' : Shows m (emptied m s) aim costs places'
    shows' = record {
      costs_are = sh.costs_are;
      values_are = λ p h. sym (value_same p h) ∙ sh.values_are p h;
      closed_are = λ p h. ap (λ (z : Place). z.closed) (started.reopens p (omega arith));
      here_is = sh.here_is;
      landing_is = sh.landing_is;
      slack_is = sh.slack_is;
    }

    pub ready_afresh : (afresh : Bool) → afresh ≡ true → Ready m aim afresh costs places' es' s
    ready_afresh afresh e = record {
      in_step = record { cached = cached'; synced = started.synced };
      shows = subst (λ (z : State). Shows m z aim costs places') (sym (cond-true afresh (emptied m s) s e)) shows';
    }

  -- gone on with
  pub ready_again : (afresh : Bool) → afresh ≡ false → places' ≡ places → Synced m aim m.places places es' → Ready m aim afresh costs places' es' s
  ready_again afresh e same synced = subst (λ (z : List Place). Ready m aim afresh costs z es' s) (sym same) (record {
    in_step = record { cached = cached; synced = synced };
    shows = subst (λ (z : State). Shows m z aim costs places) (sym (cond-false afresh (emptied m s) s e)) sh;
  })

-- the same of tables that hold the same
pub made_of : (m : Meaning) (aim : Aim) (afresh : Bool) (costs : List ℕ) (turns : ℕ) (places ps qs : List Place) (es fs : List (Entry Key)) (r : Made) (s : State) → ps ≡ qs → es ≡ fs → SearchMade m aim afresh costs turns places qs fs r s → SearchMade m aim afresh costs turns places ps es r s
made_of m aim afresh costs turns places ps qs es fs r s e d h = subst (λ (z : List Place). SearchMade m aim afresh costs turns places z es r s) (sym e) (subst (λ (z : List (Entry Key)). SearchMade m aim afresh costs turns places qs z r s) (sym d) h)
