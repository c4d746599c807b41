-- The arcs into a place whose value fell, one after another. Assumes nothing.
use Rattle.std.proofs.Common.{◌≡◌, ℕ, ◌+◌, ◌<◌, ◌≤◌, Bool, ◌⊎◌, List, get_or, Some, None, sym, refl, ap, ◌∙◌, inl, inr, arith}
use Rattle.ground.proofs.ArcsAt.{arcs_at-at, arcs_at-has}
use Rattle.ground.specs.KnownLaws.{one_answer}
use Rattle.ground.specs.Meanings.{Meaning}
use Rattle.ground.specs.Questions.{arcs_into}
use Rattle.std.proofs.lemmas.Bool.{cases_eq, cases_lt}
use Rattle.std.specs.List.{slice_get}
use Rattle.terms.specs.Amounts.{far, ◌⊕◌}
use Rattle.method.proofs.Offers.{rhs_far, rhs_landing, rhs_offer, Offered, rhs_from}
use Rattle.method.specs.States.{State}
use Rattle.method.specs.Values.{offer, rhs}
use Rattle.search.specs.declared.aim.Aim.{Aim}
use Rattle.search.specs.declared.place.Place.{Place}
use Rattle.search.specs.Tables.{Cached, place_at, told}
use Rattle.search.specs.Turning.{Lowered, SameValues, Turned}
use Rattle.search.proofs.Agreeing.{rhs_below}
use Rattle.search.proofs.Walking.{nth_past_all}
use Rattle.search.proofs.Writing.{Begun, same_then, unchanged}

module _ (m : Meaning) (aim : Aim) (costs : List ℕ) (p value : ℕ) where
  -- an arc from a place into p whose way costs this
  pub record Way (q x : ℕ) : Type 0 where
    pub arc : ℕ
    pub arc_within : arc < m.arcs
    pub from : m.tail arc ≡ q
    pub to : m.head arc ≡ p
    pub away : q ≡ aim.landing → ⊥
    pub is : x ≡ get_or costs arc 0 ⊕ value

  -- so many arcs are tried
  pub record Lowering (first : List Place) (k : ℕ) (places : List Place) : Type 0 where
    pub same : SameValues first places
    pub falls : (q : ℕ) → (place_at places q).rhs ≤ (place_at first q).rhs
    pub tried : (i j : ℕ) → i < k → slice_get (arcs_into m p) i ≡ Some j → (m.tail j ≡ aim.landing → ⊥) → (place_at places (m.tail j)).rhs ≤ get_or costs j 0 ⊕ value
    pub source : (q : ℕ) → ((place_at places q).rhs ≡ (place_at first q).rhs) ⊎ Way q (place_at places q).rhs

  pub lowering_none : (first : List Place) → Lowering first 0 first
  lowering_none first = record { same = unchanged first; falls = λ q. omega arith; tried = λ i j h. absurd (omega arith); source = λ q. inl refl }

  module _ (first : List Place) (k : ℕ) (places places' : List Place) (l : Lowering first k places) (j : ℕ) (is : slice_get (arcs_into m p) k ≡ Some j) (s : Lowered m aim costs j value places places') where
    -- an rhs only falls
    lower : (q : ℕ) → (place_at places' q).rhs ≤ (place_at places q).rhs
    lower q = elim (cases_eq q (m.tail j)) [
      | inl e ↦ elim (cases_eq (m.tail j) aim.landing) [
        | inl i ↦ (let z = s.landing i in omega (arith, ap (λ x. (place_at places' x).rhs) e, ap (λ x. (place_at places x).rhs) e))
        | inr d ↦ (let z = s.away d in omega (arith, ap (λ x. (place_at places' x).rhs) e, ap (λ x. (place_at places x).rhs) e))
      ]
      | inr d ↦ omega (arith, s.others q d)
    ]

    tried' : (i a : ℕ) → i < k + 1 → slice_get (arcs_into m p) i ≡ Some a → (m.tail a ≡ aim.landing → ⊥) → (place_at places' (m.tail a)).rhs ≤ get_or costs a 0 ⊕ value
    tried' i a h e d = elim (cases_lt i k) [
      | inl o ↦ (let t = l.tried i a o e d in let f = lower (m.tail a) in omega arith)
      | inr o ↦ latest (one_answer (slice_get (arcs_into m p) k) a j (ap (slice_get (arcs_into m p)) (let i_is : k ≡ i = omega arith in i_is) ∙ e) is)
    ]
      where
        latest : a ≡ j → (place_at places' (m.tail a)).rhs ≤ get_or costs a 0 ⊕ value
        latest same =
            let z = s.away (λ i. d (ap m.tail same ∙ i)) in
            omega (arith, ap (λ x. (place_at places' (m.tail x)).rhs) same, ap (λ x. get_or costs x 0) same)

    source' : (q : ℕ) → ((place_at places' q).rhs ≡ (place_at first q).rhs) ⊎ Way q (place_at places' q).rhs
    source' q = elim (cases_eq q (m.tail j)) [
      | inl e ↦ elim (cases_eq (m.tail j) aim.landing) [
        | inl i ↦ as_was (ap (λ x. (place_at places' x).rhs) e ∙ s.landing i ∙ ap (λ x. (place_at places x).rhs) (sym e))
        | inr d ↦ at e d
      ]
      | inr d ↦ as_was (s.others q d)
    ]
      where
        as_was : (place_at places' q).rhs ≡ (place_at places q).rhs → ((place_at places' q).rhs ≡ (place_at first q).rhs) ⊎ Way q (place_at places' q).rhs
        as_was e = elim (l.source q) [
          | inl i ↦ inl (e ∙ i)
          | inr w ↦ inr (record { arc = w.arc; arc_within = w.arc_within; from = w.from; to = w.to; away = w.away; is = e ∙ w.is })
        ]

        at : q ≡ m.tail j → (m.tail j ≡ aim.landing → ⊥) → ((place_at places' q).rhs ≡ (place_at first q).rhs) ⊎ Way q (place_at places' q).rhs
        at e d =
            let z = s.away d in
            let here = ap (λ x. (place_at places' x).rhs) e in
            let there = ap (λ x. (place_at places x).rhs) e in
            elim (cases_lt (get_or costs j 0 ⊕ value) (place_at places q).rhs) [
              | inl o ↦ (let w = arcs_at-at m.head m.arcs p k j is in inr (record { arc = j; arc_within = w.0; from = sym e; to = w.1; away = λ i. d (sym e ∙ i); is = omega arith }))
              | inr o ↦ as_was (omega arith)
            ]

    pub lowering_more : Lowering first (k + 1) places'
    lowering_more = record { same = same_then first places places' l.same s.same; falls = λ q. (let f = lower q in let g = l.falls q in omega arith); tried = tried'; source = source' }

  -- all arcs into the place are tried
  module _ (closed : Bool) (before first : List Place) (k : ℕ) (places : List Place) (b : Begun p value closed before first) (l : Lowering first k places) (none : slice_get (arcs_into m p) k ≡ None) (low : value ≤ (place_at before p).g) where
    abbrev s : State
    s = told aim costs before

    abbrev t : State
    t = told aim costs places

    value_now : (place_at places p).g ≡ value
    value_now = l.same.values p ∙ b.value_is

    values_now : (q : ℕ) → (q ≡ p → ⊥) → (place_at places q).g ≡ (place_at before q).g
    values_now q d = l.same.values q ∙ b.values q d

    stored : (q : ℕ) → (place_at first q).rhs ≡ (place_at before q).rhs
    stored = b.stored

    offers_fall : (j : ℕ) → j < m.arcs → offer m t j ≤ offer m s j
    offers_fall j h = elim (cases_eq (m.head j) p) [
      | inl e ↦ (let a = ap (λ x. (place_at places x).g) e in let c = ap (λ x. (place_at before x).g) e in omega (arith, value_now))
      | inr d ↦ omega (arith, values_now (m.head j) d)
    ]

    all_tried : (j : ℕ) → j < m.arcs → m.head j ≡ p → (m.tail j ≡ aim.landing → ⊥) → (place_at places (m.tail j)).rhs ≤ get_or costs j 0 ⊕ value
    all_tried j h e d = let w = arcs_at-has m.head m.arcs p j h e in l.tried w.0 j (nth_past_all (arcs_into m p) k w.0 j none w.2) w.2 d

    module _ (c : Cached m aim costs before) (q : ℕ) (h : q < m.places) where
      was : (place_at first q).rhs ≡ rhs m s q
      was = stored q ∙ c q h

      at_landing : q ≡ aim.landing → (place_at places q).rhs ≡ rhs m t q
      at_landing e = elim (l.source q) [ inl i ↦ (i ∙ was ∙ ap (rhs m s) e ∙ rhs_landing m s ∙ sym (ap (rhs m t) e ∙ rhs_landing m t)) | inr w ↦ absurd (w.away e) ]

      by : Offered m t q → (q ≡ aim.landing → ⊥) → (place_at places q).rhs ≤ rhs m t q
      by o d = elim (cases_eq (m.head o.arc) p) [
        | inl e ↦ (
            let a : (place_at places (m.tail o.arc)).rhs ≤ get_or costs o.arc 0 ⊕ value = all_tried o.arc o.arc_within e (λ i. d (sym o.from ∙ i)) in
            omega (arith, ap (λ x. (place_at places x).rhs) o.from, o.is, ap (λ x. (place_at places x).g) e, value_now)
            )
        | inr n ↦ (
            let r : rhs m s (m.tail o.arc) ≤ offer m s o.arc = rhs_offer m s o.arc o.arc_within in
            omega (arith, ap (rhs m s) o.from, o.is, values_now (m.head o.arc) n, was, l.falls q)
            )
      ]

      upto : (q ≡ aim.landing → ⊥) → (place_at places q).rhs ≤ rhs m t q
      upto d = elim (cases_lt (rhs m t q) far) [ inl near ↦ by (rhs_from m t q d near) d | inr beyond ↦ omega (arith, rhs_far m s q, was, l.falls q) ]

      from : rhs m t q ≤ (place_at places q).rhs
      from = elim (l.source q) [
        | inl i ↦ omega (arith, rhs_below m s t refl offers_fall q, was)
        | inr w ↦ (
            let r : rhs m t (m.tail w.arc) ≤ offer m t w.arc = rhs_offer m t w.arc w.arc_within in
            omega (arith, ap (rhs m t) w.from, w.is, ap (λ x. (place_at places x).g) w.to, value_now)
            )
      ]

      now_cached : (place_at places q).rhs ≡ rhs m t q
      now_cached = elim (cases_eq q aim.landing) [ inl e ↦ at_landing e | inr d ↦ (let u = upto d in let f = from in omega arith) ]

    pub lowered_all : Turned m aim costs p value closed before places
    lowered_all = record {
      value_is = value_now;
      values = values_now;
      closed_is = l.same.closed p ∙ b.closed_is;
      closeds = λ q d. l.same.closed q ∙ b.closeds q d;
      cached = now_cached;
    }
