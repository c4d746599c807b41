-- The function for least sums finds what the chains say.
use Rattle.std.proofs.Common.{◌≡◌, ℕ, zero, suc, ◌+◌, ◌-◌, ◌<◌, ◌≤◌, Bool, true, false, ◌&&◌, eqb, leb, List, [], ◌∷◌, ◌++◌, length, Some, None, sym, refl, ap, ◌∙◌, subst, inl, inr, arith}
use Rattle.arcs.specs.Tables.{AllLawful, arc_at}
use Rattle.ground.proofs.ArcsAt.{arcs_at-at, arcs_at-has}
use Rattle.ground.specs.Chains.{Chain, sum_of}
use Rattle.ground.specs.Meanings.{Meaning}
use Rattle.ground.specs.Questions.{arcs_into}
use Rattle.heights.proofs.Searching.{first_at, first_least, first_none, some_at}
use Rattle.heights.specs.LeastSums.{LeastSumLaw, least_sum, sums_to}
use Rattle.std.proofs.lemmas.Bool.{and_from, and_parts, both_ways, cases_Bool, cases_lt, eq-eqb, eqb-true, le-leb, leb-true, or_cases, or_left, or_right}
use Rattle.std.proofs.lemmas.List.Folds.{list_any_at}
use Rattle.std.proofs.lemmas.Option.{get_or_from_slice_get}
use Rattle.std.specs.List.{list_any}
use Rattle.survey.proofs.Chaining.{chain_more, sum_more}
use Rattle.survey.specs.Sums.{flat, Apart, LeastSum}
use Rattle.terms.specs.declared.arc.Arc.{Arc}

module _ (g : Meaning) (from : ℕ) where
  -- there is a chain from the place to p that sums to v
  abbrev pub Sums : ℕ → ℕ → Type 0
  Sums v p = (js : List ℕ) × Chain g from js p × (sum_of g.least js ≡ v)

  -- v at p is found with any fuel from v on
  abbrev pub Finds : ℕ → ℕ → Type 0
  Finds v p = (k : ℕ) → v ≤ k → sums_to g from k v p ≡ true

  -- the chain of no arcs
  none : from < g.places → (v p : ℕ) → (eqb v 0 && eqb p from) ≡ true → Sums v p
  none h v p e = let r = and_parts (eqb v 0) (eqb p from) e in ([], (h, sym (eqb-true p from r.1)), sym (eqb-true v 0 r.0))

  module _ (start : from < g.places) (heads : (j : ℕ) → j < g.arcs → g.head j < g.places) where
    pub sound : (k v p : ℕ) → sums_to g from k v p ≡ true → Sums v p
    unfolding sums_to
    sound zero v p e = none start v p e
    sound (suc k) v p e = elim (or_cases (eqb v 0 && eqb p from) (list_any last (arcs_into g p)) e) [
      | inl h ↦ none start v p h
      | inr h ↦ let r = some_at last (arcs_into g p) h in
          let j = r.1 in
          let a = arcs_at-at g.head g.arcs p r.0 j r.2 in
          let b = and_parts (leb (g.least j) v) (sums_to g from k (v - g.least j) (g.tail j)) r.3 in
          let c = sound k (v - g.least j) (g.tail j) b.1 in
          let l = leb-true (g.least j) v b.0 in
          (c.0 ++ j ∷ [], subst (Chain g from (c.0 ++ j ∷ [])) a.1 (chain_more g from c.0 j a.0 (heads j a.0) c.1), omega (arith, sum_more g g.least c.0 j, c.2))
    ]
      where
        last : ℕ → Bool
        last j = leb (g.least j) v && sums_to g from k (v - g.least j) (g.tail j)

  module _ (costly : (j : ℕ) → j < g.arcs → 1 ≤ g.least j) where
    finds_more : (v j : ℕ) → j < g.arcs → Finds v (g.tail j) → Finds (v + g.least j) (g.head j)
    unfolding sums_to
    finds_more v j h f zero l = absurd (omega (arith, costly j h))
    finds_more v j h f (suc k) l =
        let has = arcs_at-has g.head g.arcs (g.head j) j h refl in
        let e : v ≡ v + g.least j - g.least j = omega arith in
        let low : leb (g.least j) (v + g.least j) ≡ true = le-leb (g.least j) (v + g.least j) (omega arith) in
        let before : sums_to g from k (v + g.least j - g.least j) (g.tail j) ≡ true = subst (λ (w : ℕ). sums_to g from k w (g.tail j) ≡ true) e (f k (omega (arith, costly j h))) in
        or_right (eqb (v + g.least j) 0 && eqb (g.head j) from) (list_any last (arcs_into g (g.head j))) (list_any_at last (arcs_into g (g.head j)) has.0 0 has.1 (ap last (get_or_from_slice_get (arcs_into g (g.head j)) has.0 j 0 has.2) ∙ and_from (leb (g.least j) (v + g.least j)) (sums_to g from k (v + g.least j - g.least j) (g.tail j)) low before))
      where
        last : ℕ → Bool
        last i = leb (g.least i) (v + g.least j) && sums_to g from k (v + g.least j - g.least i) (g.tail i)

    finds_chain : (js : List ℕ) (v a p : ℕ) → Chain g a js p → Finds v a → Finds (v + sum_of g.least js) p
    finds_chain [] v a p c f = let e : v ≡ v + 0 = omega arith in subst (λ (w : ℕ). Finds w p) e (subst (Finds v) c.1 f)
    finds_chain (j ∷ js) v a p c f =
        let e : v + g.least j + sum_of g.least js ≡ v + (g.least j + sum_of g.least js) = omega arith in
        subst (λ (w : ℕ). Finds w p) e (finds_chain js (v + g.least j) (g.head j) p c.2 (finds_more v j c.0 (subst (Finds v) (sym c.1) f)))

    finds_start : Finds 0 from
    unfolding sums_to
    finds_start zero l = and_from (eqb 0 0) (eqb from from) refl (eq-eqb from from refl)
    finds_start (suc k) l = or_left (eqb 0 0 && eqb from from) _ (and_from (eqb 0 0) (eqb from from) refl (eq-eqb from from refl))

    pub complete : (js : List ℕ) (p : ℕ) → Chain g from js p → sums_to g from (sum_of g.least js) (sum_of g.least js) p ≡ true
    complete js p c = let e : 0 + sum_of g.least js ≡ sum_of g.least js = omega arith in
        subst (λ (w : ℕ). Finds w p) e (finds_chain js 0 from p c finds_start) (sum_of g.least js) (omega arith)

module _ (n : ℕ) (arcs : List Arc) (from : ℕ) (lawful : AllLawful n arcs) (start : from < n) where
  chain_found : (js : List ℕ) (p : ℕ) → Chain (flat n arcs) from js p → sums_to (flat n arcs) from (sum_of (flat n arcs).least js) (sum_of (flat n arcs).least js) p ≡ true
  chain_found = complete (flat n arcs) from (λ j h. (lawful j h).least_low)

  found_chain : (v p : ℕ) → sums_to (flat n arcs) from v v p ≡ true → Sums (flat n arcs) from v p
  found_chain v p = sound (flat n arcs) from start (λ j h. (lawful j h).head_in) v v p

  pub least_found : (p x : ℕ) → x ≤ 163830000 → LeastSum (flat n arcs) from p x → least_sum (flat n arcs) from p ≡ Some x
  unfolding least_sum
  least_found p x low l = first_least at 0 163830001 x (omega arith) (omega arith) (subst (λ (w : ℕ). at w ≡ true) l.sum (chain_found l.chain p l.joins)) fewer
    where
      at : ℕ → Bool
      at v = sums_to (flat n arcs) from v v p

      fewer : (w : ℕ) → w < x → at w ≡ false
      fewer w h = elim (cases_Bool (at w)) [ inl e ↦ let c = found_chain w p e in absurd (omega (arith, l.least c.0 c.1, c.2)) | inr e ↦ e ]

  pub found_least : (p x : ℕ) → least_sum (flat n arcs) from p ≡ Some x → LeastSum (flat n arcs) from p x
  unfolding least_sum
  found_least p x e = record { chain = c.0; joins = c.1; sum = c.2; least = least }
    where
      at : ℕ → Bool
      at v = sums_to (flat n arcs) from v v p

      r : (at x ≡ true) × ((w : ℕ) → 0 ≤ w → w < x → at w ≡ false)
      r = first_at at 0 163830001 x e

      c : Sums (flat n arcs) from x p
      c = found_chain x p r.0

      least : (js : List ℕ) → Chain (flat n arcs) from js p → x ≤ sum_of (flat n arcs).least js
      least js k = elim (cases_lt (sum_of (flat n arcs).least js) x) [
        | inl h ↦ absurd (both_ways (at (sum_of (flat n arcs).least js)) (r.1 (sum_of (flat n arcs).least js) (omega arith) h) (chain_found js p k))
        | inr h ↦ h
      ]

  pub apart_none : (p : ℕ) → Apart (flat n arcs) from p → least_sum (flat n arcs) from p ≡ None
  unfolding least_sum
  apart_none p apart = first_none at 0 163830001 (λ w. elim (cases_Bool (at w)) [ inl e ↦ let c = found_chain w p e in absurd (apart c.0 c.1) | inr e ↦ e ])
    where
      at : ℕ → Bool
      at v = sums_to (flat n arcs) from v v p

pub least_sum_law : LeastSumLaw
least_sum_law n arcs from p lawful start = record {
  found_least = found_least n arcs from lawful start p;
  least_found = least_found n arcs from lawful start p;
  apart_none = apart_none n arcs from lawful start p;
}

-- from a place that is not there no sum is found
module _ (n : ℕ) (arcs : List Arc) (from : ℕ) (lawful : AllLawful n arcs) (away : n ≤ from) where
  outside : (k v p : ℕ) → p < n → sums_to (flat n arcs) from k v p ≡ true → ⊥
  unfolding sums_to
  outside zero v p h e = omega (arith, eqb-true p from (and_parts (eqb v 0) (eqb p from) e).1)
  outside (suc k) v p h e = elim (or_cases (eqb v 0 && eqb p from) (list_any last (arcs_into (flat n arcs) p)) e) [
    | inl l ↦ omega (arith, eqb-true p from (and_parts (eqb v 0) (eqb p from) l).1)
    | inr l ↦ let r = some_at last (arcs_into (flat n arcs) p) l in
        let a = arcs_at-at (flat n arcs).head (length arcs) p r.0 r.1 r.2 in
        outside k (v - (arc_at arcs r.1).least) (arc_at arcs r.1).tail (lawful r.1 a.0).tail_in (and_parts (leb (arc_at arcs r.1).least v) (sums_to (flat n arcs) from k (v - (arc_at arcs r.1).least) (arc_at arcs r.1).tail) r.3).1
  ]
    where
      last : ℕ → Bool
      last j = leb (arc_at arcs j).least v && sums_to (flat n arcs) from k (v - (arc_at arcs j).least) (arc_at arcs j).tail

  pub outside_none : (p : ℕ) → p < n → least_sum (flat n arcs) from p ≡ None
  unfolding least_sum
  outside_none p h = first_none at 0 163830001 (λ w. elim (cases_Bool (at w)) [ inl e ↦ absurd (outside w w p h e) | inr e ↦ e ])
    where
      at : ℕ → Bool
      at v = sums_to (flat n arcs) from v v p
