-- The arcs into a place whose value rose to far, one after another. Assumes nothing.
use Rattle.std.proofs.Common.{◌≡◌, ℕ, ◌+◌, ◌<◌, ◌≤◌, Bool, ◌⊎◌, List, get_or, Some, None, sym, refl, ap, ◌∙◌, inl, inr, arith}
use Rattle.ground.proofs.ArcsAt.{arcs_at-has}
use Rattle.ground.specs.KnownLaws.{one_answer}
use Rattle.ground.specs.Meanings.{Meaning}
use Rattle.ground.specs.Questions.{arcs_into}
use Rattle.std.proofs.lemmas.Bool.{cases_eq, cases_lt}
use Rattle.std.specs.List.{slice_get}
use Rattle.terms.specs.Amounts.{far, ◌⊕◌}
use Rattle.method.specs.States.{State}
use Rattle.method.specs.Values.{offer, rhs}
use Rattle.search.specs.declared.aim.Aim.{Aim}
use Rattle.search.specs.declared.place.Place.{Place}
use Rattle.search.specs.Tables.{Cached, place_at, told}
use Rattle.search.specs.Turning.{Raised, SameValues, Turned}
use Rattle.search.proofs.Agreeing.{rhs_agrees, rhs_below, rhs_below_at}
use Rattle.search.proofs.Walking.{nth_past_all}
use Rattle.search.proofs.Writing.{Begun, same_then, unchanged}

-- tables with the same values tell the same rhs
same_rhs : (m : Meaning) (aim : Aim) (costs : List ℕ) (a b : List Place) → SameValues a b → (q : ℕ) → rhs m (told aim costs b) q ≡ rhs m (told aim costs a) q
same_rhs m aim costs a b same = rhs_agrees m (told aim costs a) (told aim costs b) refl (λ j h. ap (λ x. get_or costs j 0 ⊕ x) (same.values (m.head j)))

module _ (m : Meaning) (aim : Aim) (costs : List ℕ) (p value : ℕ) (first : List Place) where
  -- none of so many arcs from a place into p offered it the rhs that it has
  pub record Free (k : ℕ) (places : List Place) (q : ℕ) : Type 0 where
    pub stays : (place_at places q).rhs ≡ (place_at first q).rhs
    pub apart : (i j : ℕ) → i < k → slice_get (arcs_into m p) i ≡ Some j → m.tail j ≡ q → (place_at first q).rhs ≡ get_or costs j 0 ⊕ value → ⊥

  -- so many arcs are tried: each rhs is made anew, or does not rest on one of them
  pub record Raising (k : ℕ) (places : List Place) : Type 0 where
    pub same : SameValues first places
    pub each : (q : ℕ) → ((place_at places q).rhs ≡ rhs m (told aim costs first) q) ⊎ Free k places q

  pub raising_none : Raising 0 first
  raising_none = record { same = unchanged first; each = λ q. inr (record { stays = refl; apart = λ i j h. absurd (omega arith) }) }

  module _ (k : ℕ) (places places' : List Place) (l : Raising k places) (j : ℕ) (is : slice_get (arcs_into m p) k ≡ Some j) (s : Raised m aim costs j value places places') where
    -- an rhs that stays as it was, and does not rest on the arc
    still : (q : ℕ) → (place_at places' q).rhs ≡ (place_at places q).rhs → (m.tail j ≡ q → (place_at places q).rhs ≡ get_or costs j 0 ⊕ value → ⊥) → ((place_at places' q).rhs ≡ rhs m (told aim costs first) q) ⊎ Free (k + 1) places' q
    still q e off = elim (l.each q) [ inl i ↦ inl (e ∙ i) | inr f ↦ inr (record { stays = e ∙ f.stays; apart = one_more f }) ]
      where
        one_more : Free k places q → (i a : ℕ) → i < k + 1 → slice_get (arcs_into m p) i ≡ Some a → m.tail a ≡ q → (place_at first q).rhs ≡ get_or costs a 0 ⊕ value → ⊥
        one_more f i a h n from rests = elim (cases_lt i k) [ inl o ↦ f.apart i a o n from rests | inr o ↦ latest (one_answer (slice_get (arcs_into m p) k) a j (ap (slice_get (arcs_into m p)) (let i_is : k ≡ i = omega arith in i_is) ∙ n) is) ]
          where
            latest : a ≡ j → ⊥
            latest same = off (ap m.tail (sym same) ∙ from) (f.stays ∙ rests ∙ ap (λ x. get_or costs x 0 ⊕ value) same)

    each' : (q : ℕ) → ((place_at places' q).rhs ≡ rhs m (told aim costs first) q) ⊎ Free (k + 1) places' q
    each' q = elim (cases_eq q (m.tail j)) [
      | inl e ↦ elim (cases_eq (place_at places (m.tail j)).rhs (get_or costs j 0 ⊕ value)) [
        | inl r ↦ inl (ap (λ x. (place_at places' x).rhs) e ∙ s.resting r ∙ same_rhs m aim costs first places l.same (m.tail j) ∙ ap (rhs m (told aim costs first)) (sym e))
        | inr d ↦ still q (ap (λ x. (place_at places' x).rhs) e ∙ s.free d ∙ ap (λ x. (place_at places x).rhs) (sym e)) (λ from r. d (ap (λ x. (place_at places x).rhs) from ∙ r))
      ]
      | inr d ↦ still q (s.others q d) (λ from r. d (sym from))
    ]

    pub raising_more : Raising (k + 1) places'
    raising_more = record { same = same_then first places places' l.same s.same; each = each' }

  -- all arcs into the place are tried
  module _ (closed : Bool) (before : List Place) (k : ℕ) (places : List Place) (b : Begun p far closed before first) (l : Raising k places) (none : slice_get (arcs_into m p) k ≡ None) (old : value ≡ (place_at before p).g) where
    abbrev s : State
    s = told aim costs before

    abbrev t : State
    t = told aim costs places

    value_now : (place_at places p).g ≡ far
    value_now = l.same.values p ∙ b.value_is

    values_now : (q : ℕ) → (q ≡ p → ⊥) → (place_at places q).g ≡ (place_at before q).g
    values_now q d = l.same.values q ∙ b.values q d

    offers_rise : (j : ℕ) → j < m.arcs → offer m s j ≤ offer m t j
    offers_rise j h = elim (cases_eq (m.head j) p) [
      | inl e ↦ (let a = ap (λ x. (place_at places x).g) e in omega (arith, value_now))
      | inr d ↦ omega (arith, values_now (m.head j) d)
    ]

    module _ (c : Cached m aim costs before) (q : ℕ) (h : q < m.places) where
      was : (place_at first q).rhs ≡ rhs m s q
      was = b.stored q ∙ c q h

      free_offer : Free k places q → (j : ℕ) → j < m.arcs → m.tail j ≡ q → rhs m s q ≡ offer m s j → offer m t j ≤ offer m s j
      free_offer f j a from rests = elim (cases_eq (m.head j) p) [
        | inl e ↦ (let w = arcs_at-has m.head m.arcs p j a e in absurd (f.apart w.0 j (nth_past_all (arcs_into m p) k w.0 j none w.2) w.2 from (was ∙ rests ∙ ap (λ x. get_or costs j 0 ⊕ x) (ap (λ x. (place_at before x).g) e ∙ sym old))))
        | inr d ↦ omega (arith, values_now (m.head j) d)
      ]

      now_cached : (place_at places q).rhs ≡ rhs m t q
      now_cached = elim (l.each q) [
        | inl i ↦ (i ∙ sym (same_rhs m aim costs first places l.same q))
        | inr f ↦ (let up = rhs_below m t s refl offers_rise q in let down = rhs_below_at m s t refl q (free_offer f) in omega (arith, f.stays, was))
      ]

    pub raised_all : Turned m aim costs p far closed before places
    raised_all = record {
      value_is = value_now;
      values = values_now;
      closed_is = l.same.closed p ∙ b.closed_is;
      closeds = λ q d. l.same.closed q ∙ b.closeds q d;
      cached = now_cached;
    }
