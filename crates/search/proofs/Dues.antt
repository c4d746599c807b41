-- Whose turn it is, from the smallest key in the queue. Assumes nothing.
use Rattle.std.proofs.Common.{◌≡◌, ℕ, ◌<◌, true, false, ◌⊎◌, List, Some, None, Option, sym, ap, ◌∙◌, subst, inl, inr, arith}
use Rattle.std.proofs.lemmas.Bool.{cases_lt, cases_Bool, cond-true, cond-false, and_parts, and_from, not-true, not_from_false, eqb-true, eqb-false, eq-eqb, ne_eqb, true≢false}
use Rattle.ground.specs.Meanings.{Meaning, Lawful}
use Rattle.method.specs.States.{State}
use Rattle.method.specs.Values.{rhs}
use Rattle.method.specs.Keys.{before, key}
use Rattle.method.specs.Turns.{ended, turn_with}
use Rattle.method.specs.Laws.{Waits, HasTurn, SearchOver}
use Rattle.method.proofs.Chosen.{choice_laws}
use Rattle.queue.specs.Calls.{Empty, Leads}
use Rattle.queue.specs.Content.{key_of}
use Rattle.queue.specs.Keys.{key_cmp, key_upto}
use Rattle.queue.specs.Tree.{before as ahead}
use Rattle.queue.specs.declared.entry.Entry.{Entry}
use Rattle.queue.specs.declared.key.Key.{Key}
use Rattle.search.specs.declared.aim.Aim.{Aim}
use Rattle.search.specs.declared.place.Place.{Place}
use Rattle.search.specs.Queued.{is_waiting, key_for, entry_key, is_first}
use Rattle.search.specs.Steps.{Due, InStep}
use Rattle.search.specs.Tables.{place_at, Shows}
use Rattle.search.proofs.Ranks.{upto_before, before_upto, ahead_least, ahead_lowest, before_carries, not_before_self}
use Rattle.search.proofs.Shown.{rhs_stored, key_stored, told_waits, waits_told}

not_both : (v : Option Key) (k : Key) → v ≡ Some k → v ≡ None → ⊥
not_both v k p q = let z : ◌≡◌ {A = ℕ} 0 1 = cc in omega arith

module _ (m : Meaning) (law : Lawful m) (aim : Aim) (costs : List ℕ) (places : List Place) (es : List (Entry Key)) (here_in : aim.here < m.places) (st : InStep m aim costs places es) (s : State) (sh : Shows m s aim costs places) where
  stored : (q : ℕ) → q < m.places → is_waiting (place_at places q) ≡ true → key_of es q ≡ Some (entry_key (key m s q))
  stored q h w = st.synced.below q h ∙ cond-true (is_waiting (place_at places q)) _ _ w ∙ ap (λ k. Some (entry_key k)) (key_stored m law aim costs places s sh st.cached q h)

  -- a place that waits stands in the queue under its key
  waits_held : (q : ℕ) → Waits m s q → key_of es q ≡ Some (entry_key (key m s q))
  waits_held q w = stored q w.place_in (waits_told m law aim costs places s sh st.cached q w)

  -- and what stands in the queue waits
  held_waits : (q : ℕ) (k : Key) → key_of es q ≡ Some k → Waits m s q × (k ≡ entry_key (key m s q))
  held_waits q k e = elim (cases_lt q m.places) [
    | inl h ↦ inside h (cases_Bool (is_waiting (place_at places q)))
    | inr h ↦ absurd (not_both (key_of es q) k e (st.synced.beyond q h))
  ]
    where
      inside : q < m.places → (is_waiting (place_at places q) ≡ true) ⊎ (is_waiting (place_at places q) ≡ false) → Waits m s q × (k ≡ entry_key (key m s q))
      inside h (inl w) = let is = stored q h w in (told_waits m law aim costs places s sh st.cached q h w, cc)
      inside h (inr w) = absurd (not_both (key_of es q) k e (st.synced.below q h ∙ cond-false (is_waiting (place_at places q)) _ _ w))

  pub none_due : Empty key_cmp es → ended m s ≡ true
  none_due e = (choice_laws m s).1.over (inl (λ q w. not_both (key_of es q) _ (waits_held q w) (e.content q)))

  here_key : entry_key (key_for aim.slack.sixteenths 0 (place_at places aim.here)) ≡ entry_key (key m s s.here)
  here_key =
      ap (λ e. entry_key (key_for aim.slack.sixteenths e (place_at places aim.here))) (sym (law.estimate_self aim.here here_in))
      ∙ ap entry_key (key_stored m law aim costs places s sh st.cached aim.here here_in)
      ∙ ap (λ z. entry_key (key m s z)) sh.here_is

  here_value : (place_at places aim.here).g ≡ s.g s.here
  here_value = sh.values_are aim.here here_in ∙ ap s.g sh.here_is

  here_rhs : (place_at places aim.here).rhs ≡ rhs m s s.here
  here_rhs = rhs_stored m law aim costs places s sh st.cached aim.here here_in ∙ ap (rhs m s) sh.here_is

  module _ (p : ℕ) (k : Key) (leads : Leads key_cmp es (p, k)) where
    waits_first : Waits m s p
    waits_first = (held_waits p k leads.stands).0

    key_first : k ≡ entry_key (key m s p)
    key_first = (held_waits p k leads.stands).1

    in_front : (q : ℕ) → Waits m s q → (q ≡ p) ⊎ (ahead key_cmp (p, entry_key (key m s p)) (q, entry_key (key m s q)) ≡ true)
    in_front q w = subst (λ (z : Key). (q ≡ p) ⊎ (ahead key_cmp (p, z) (q, entry_key (key m s q)) ≡ true)) key_first (leads.first q (entry_key (key m s q)) (waits_held q w))

    least : (q : ℕ) → Waits m s q → before (key m s q) (key m s p) ≡ false
    least q w = go (in_front q w)
      where
        go : (q ≡ p) ⊎ (ahead key_cmp (p, entry_key (key m s p)) (q, entry_key (key m s q)) ≡ true) → before (key m s q) (key m s p) ≡ false
        go (inl e) = subst (λ (z : ℕ). before (key m s z) (key m s p) ≡ false) (sym e) (not_before_self (key m s p))
        go (inr h) = ahead_least p q (key m s p) (key m s q) h

    lowest : (q : ℕ) → Waits m s q → q < p → before (key m s p) (key m s q) ≡ true
    lowest q w low = go (in_front q w)
      where
        go : (q ≡ p) ⊎ (ahead key_cmp (p, entry_key (key m s p)) (q, entry_key (key m s q)) ≡ true) → before (key m s p) (key m s q) ≡ true
        go (inl e) = absurd (omega arith)
        go (inr h) = ahead_lowest p q (key m s p) (key m s q) h low

    has_turn : HasTurn m s p
    has_turn = record { waits = waits_first; least = least; lowest = lowest }

    pub due_in : p < m.places
    due_in = waits_first.place_in

    upto_here : key_upto (entry_key (key_for aim.slack.sixteenths 0 (place_at places aim.here))) k ≡ key_upto (entry_key (key m s s.here)) (entry_key (key m s p))
    upto_here = ap (λ z. key_upto z k) here_key ∙ ap (key_upto (entry_key (key m s s.here))) key_first

    pub over_due : is_first aim.slack.sixteenths (place_at places aim.here) k ≡ true → ended m s ≡ true
    over_due h =
        let a = and_parts _ _ h in
        let b = and_parts _ _ a.1 in
        (choice_laws m s).1.over (inr (
          sym here_value ∙ eqb-true _ _ a.0 ∙ here_rhs,
          λ e. eqb-false _ _ (not-true _ b.0) (here_value ∙ e),
          λ q w. before_carries (key m s s.here) (key m s p) (key m s q) (upto_before (key m s s.here) (key m s p) (sym upto_here ∙ b.1)) (least q w),
        ))

    not_over : SearchOver m s → is_first aim.slack.sixteenths (place_at places aim.here) k ≡ true
    not_over (inl none) = absurd (none p waits_first)
    not_over (inr h) =
        and_from _ _ (eq-eqb _ _ (here_value ∙ h.0 ∙ sym here_rhs))
        (and_from _ _ (not_from_false _ (ne_eqb _ _ (λ e. h.1 (sym here_value ∙ e)))) (upto_here ∙ before_upto (key m s s.here) (key m s p) (h.2 p waits_first)))

    pub next_due : is_first aim.slack.sixteenths (place_at places aim.here) k ≡ false → Due m s (Some p)
    next_due h = (
      elim (cases_Bool (ended m s)) [ inl e ↦ absurd (true≢false (sym (not_over ((choice_laws m s).1.ends e)) ∙ h)) | inr e ↦ e ],
      ap (turn_with m s) ((choice_laws m s).0.only p has_turn),
      due_in,
    )
