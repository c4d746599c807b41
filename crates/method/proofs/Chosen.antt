-- The choice of a place and the end of a search in words. Assumes nothing.
use Rattle.std.proofs.Common.{◌≡◌, ℕ, ◌<◌, Bool, true, false, not, eqb, ◌⊎◌, List, [], ◌∷◌, Some, None, Option, sym, refl, ap, ◌∙◌, inl, inr, arith}
use Rattle.std.proofs.lemmas.Bool.{cases_Bool, cases_eq, cases_order, and_from, or_right, or_from, not_from_false, eq-eqb, ne_eqb, true≢false}
use Rattle.terms.specs.Amounts.{far}
use Rattle.ground.specs.Meanings.{Meaning}
use Rattle.method.specs.States.{State}
use Rattle.method.specs.Values.{level, is_open, open_places}
use Rattle.method.specs.Keys.{Key, before, key}
use Rattle.method.specs.Turns.{soonest, all_of, is_none, here_after, ended}
use Rattle.method.specs.Laws.{Waits, HasTurn, TurnLaw, SearchOver, EndLaw, ChoiceLaws}
use Rattle.method.proofs.Members.{Member}
use Rattle.method.proofs.Bests.{rising_kept, best_lowest}
use Rattle.method.proofs.Orders.{Upto, strict}
use Rattle.method.proofs.Opens.{Open, open_listed, listed_open, soonest_none, soonest_least}
use Rattle.method.proofs.Running.{End, nothing_open, here_first, ended_end, none_ended}

-- a key that does not come after another is not preceded by it
upto_before : (k l : Key) → Upto k l → before l k ≡ false
upto_before k l u = go (cases_Bool (before l k))
  where
    go : (before l k ≡ true) ⊎ (before l k ≡ false) → before l k ≡ false
    go (inl t) = absurd (let s = strict l k t in let same : k.first ≡ l.first = omega (arith, u.firsts) in omega (arith, u.seconds same, s.1 (sym same)))
    go (inr f) = f

member_all : (test : ℕ → Bool) (xs : List ℕ) → ((q : ℕ) → Member q xs → test q ≡ true) → all_of test xs ≡ true
member_all test [] h = refl
member_all test (x ∷ xs) h = and_from (test x) (all_of test xs) (h x (inl refl)) (member_all test xs (λ q k. h q (inr k)))

module _ (m : Meaning) (s : State) where
  opens : (q : ℕ) → Waits m s q → Open m s q
  opens q w = record { place_in = w.place_in; not_level = w.not_level; free = w.free }

  waits : (q : ℕ) → Open m s q → Waits m s q
  waits q o = record { place_in = o.place_in; not_level = o.not_level; free = o.free }

  found : (p : ℕ) → soonest (key m s) (open_places m s) ≡ Some p → HasTurn m s p
  found p e =
      let so = soonest_least (key m s) (open_places m s) p e in
      record {
        waits = waits p (listed_open m s p so.among);
        least = λ q w. upto_before (key m s p) (key m s q) (so.least q (open_listed m s q (opens q w)));
        lowest = λ q w low. best_lowest (λ q p. before (key m s q) (key m s p)) (open_places m s) (rising_kept (is_open m s) 0 m.places) p e q (open_listed m s q (opens q w)) low;
      }

  one : (p q : ℕ) → HasTurn m s p → HasTurn m s q → p ≡ q
  one p q a b = go (cases_order p q)
    where
      go : (p ≡ q) ⊎ ((p < q) ⊎ (q < p)) → p ≡ q
      go (inl e) = e
      go (inr (inl l)) = absurd (true≢false (sym (b.lowest p a.waits l) ∙ a.least q b.waits))
      go (inr (inr l)) = absurd (true≢false (sym (a.lowest q b.waits l) ∙ b.least p a.waits))

  turn_law : TurnLaw m s
  turn_law = record {
    found = found;
    one = one;
    only = λ p a. only p a (soonest (key m s) (open_places m s)) refl;
    idle = λ e q w. soonest_none (key m s) (open_places m s) e q (open_listed m s q (opens q w));
  }
    where
      only : (p : ℕ) → HasTurn m s p → (r : Option ℕ) → soonest (key m s) (open_places m s) ≡ r → soonest (key m s) (open_places m s) ≡ Some p
      only p a None e = absurd (soonest_none (key m s) (open_places m s) e p (open_listed m s p (opens p a.waits)))
      only p a (Some q) e = e ∙ ap Some (one q p (found q e) a)

  end_law : EndLaw m s
  unfolding ended
  end_law = record { ends = λ e. to (ended_end m s e); over = back }
    where
      to : End m s → SearchOver m s
      to (nothing_open none) = inl (λ q w. none q (opens q w))
      to (here_first level first) = elim (cases_eq (s.g s.here) far) [
        | inl e ↦ inl (λ q w. (first q (opens q w)).0 e)
        | inr d ↦ inr (level, d, λ q w. (first q (opens q w)).1)
      ]

      back : SearchOver m s → ended m s ≡ true
      back (inl none) = none_ended m s (λ q o. none q (waits q o))
      back (inr h) =
          or_right (is_none (open_places m s)) _
          (and_from (level m s s.here) _ (eq-eqb _ _ h.0)
          (member_all (λ p. not (here_after m s p)) (open_places m s) (λ q k. not_from_false _ (or_from (eqb (s.g s.here) far) _ (ne_eqb _ _ h.1) (h.2 q (waits q (listed_open m s q k)))))))

pub choice_laws : ChoiceLaws
choice_laws m s = (turn_law m s, end_law m s)
