-- Heights that are least sums, or 0.
use Rattle.std.proofs.Common.{◌≡◌, ℕ, ◌<◌, ◌≤◌, Bool, true, false, cond, ◌&&◌, ltb, List, length, get_or, is_some, unwrap_or, Some, None, Ok, Err, Result, sym, ap, ◌∙◌, ap₂, inl, inr, zero-add, arith}
use Rattle.arcs.specs.Index.{SameFrom}
use Rattle.arcs.specs.Tables.{AllLawful}
use Rattle.ground.specs.Meanings.{Meaning}
use Rattle.heights.proofs.Summing.{apart_none, least_found, outside_none}
use Rattle.heights.specs.LeastSums.{are_all_found, height_from, heights_from, least_sum}
use Rattle.roads.specs.Loads.{Accepted, Fits, Own}
use Rattle.std.proofs.lemmas.List.FromFn.{get_or-map-range_with_len, get_or-range_with_len, length-map-range_with_len, length-range_with_len}
use Rattle.std.proofs.lemmas.List.Folds.{list_all_at}
use Rattle.std.proofs.lemmas.List.Sums.{list_all-from_AllPass}
use Rattle.std.specs.List.{range_with_len}
use Rattle.std.proofs.lemmas.List.{ext_get_or, get_or_past}
use Rattle.std.proofs.lemmas.Bool.{and_from, and_left, and_right, cases_lt, false≢true, le-ltb, lt-ltb}
use Rattle.std.specs.Result.{OnOk, is_err}
use Rattle.survey.proofs.Judging.{not_ready}
use Rattle.survey.specs.Answers.{Answered, Refused, before, apart}
use Rattle.survey.specs.Sums.{flat, LeastSum}
use Rattle.survey.specs.Surveys.{Fits as FitsIn, Ready, Small}
use Rattle.survey.specs.declared.working.Working.{Working}
use Rattle.terms.specs.declared.arc.Arc.{Arc}
use Rattle.terms.specs.declared.refusal.Refusal.{Refusal}

module _ (g : Meaning) (from : ℕ) where
  all_found : (n : ℕ) → ((p : ℕ) → p < n → is_some (least_sum g from p) ≡ true) → are_all_found g from n ≡ true
  unfolding are_all_found
  all_found n each = list_all-from_AllPass _ (range_with_len 0 n) (λ k d h. ap (λ p. is_some (least_sum g from p)) (get_or-range_with_len 0 n k d (omega (arith, length-range_with_len 0 n))) ∙ each _ (omega (arith, length-range_with_len 0 n)))

  not_found : (n p : ℕ) → p < n → least_sum g from p ≡ None → are_all_found g from n ≡ false
  unfolding are_all_found
  not_found n p h e = list_all_at _ (range_with_len 0 n) p 0 (omega (arith, length-range_with_len 0 n)) (ap (λ q. is_some (least_sum g from q)) (get_or-range_with_len 0 n p 0 h ∙ zero-add p) ∙ ap is_some e)

module _ (size n : ℕ) (arcs : List Arc) (from : ℕ) where
  pub heights_size : length (heights_from size n arcs from) ≡ size
  unfolding heights_from
  heights_size = length-map-range_with_len (height_from n arcs from) 0 size

  height_at : (p : ℕ) → p < size → get_or (heights_from size n arcs from) p 0 ≡ height_from n arcs from p
  unfolding heights_from
  height_at p h = get_or-map-range_with_len (height_from n arcs from) 0 size p p 0 h (omega arith)

  height_found : (p x : ℕ) → p < n → are_all_found (flat n arcs) from n ≡ true → least_sum (flat n arcs) from p ≡ Some x → height_from n arcs from p ≡ x
  unfolding height_from
  height_found p x h all e = ap₂ (λ (b : Bool) s. cond b (unwrap_or s 0) 0) (and_from (ltb p n) (are_all_found (flat n arcs) from n) (lt-ltb p n h) all) e

  height_none : (p : ℕ) → (ltb p n && are_all_found (flat n arcs) from n) ≡ false → height_from n arcs from p ≡ 0
  unfolding height_from
  height_none p e = ap (λ (b : Bool). cond b (unwrap_or (least_sum (flat n arcs) from p) 0) 0) e

  heights_none : (p : ℕ) → (ltb p n && are_all_found (flat n arcs) from n) ≡ false → get_or (heights_from size n arcs from) p 0 ≡ 0
  heights_none p e = elim (cases_lt p size) [
    | inl h ↦ height_at p h ∙ height_none p e
    | inr h ↦ get_or_past (heights_from size n arcs from) p 0 (omega (arith, heights_size))
  ]

  pub heights_beyond : (p : ℕ) → n ≤ p → get_or (heights_from size n arcs from) p 0 ≡ 0
  heights_beyond p h = heights_none p (and_left (ltb p n) (are_all_found (flat n arcs) from n) (le-ltb p n h))

  module _ (lawful : AllLawful n arcs) (start : from < n) where
    -- least sums for every place are the defined heights
    pub measured : (hs : List ℕ) → n ≤ size → ((p : ℕ) → p < n → get_or hs p 0 ≤ 163830000) → ((p : ℕ) → p < n → LeastSum (flat n arcs) from p (get_or hs p 0)) → (p : ℕ) → p < n → get_or hs p 0 ≡ get_or (heights_from size n arcs from) p 0
    measured hs room low least p h = sym (height_at p (omega arith) ∙ height_found p (get_or hs p 0) h (all_found (flat n arcs) from n (λ q l. ap is_some (some q l))) (some p h))
      where
        some : (q : ℕ) → q < n → least_sum (flat n arcs) from q ≡ Some (get_or hs q 0)
        some q l = least_found n arcs from lawful start q (get_or hs q 0) (low q l) (least q l)

  -- where a place has no least sum, every defined height is 0
  pub unfound : (q : ℕ) → q < n → least_sum (flat n arcs) from q ≡ None → (p : ℕ) → get_or (heights_from size n arcs from) p 0 ≡ 0
  unfound q h e p = heights_none p (and_right (ltb p n) (are_all_found (flat n arcs) from n) (not_found (flat n arcs) from n q h e))

-- a table of zeros beyond the places, once levelled, is the defined one
pub level_whole : (n : ℕ) (arcs : List Arc) (from : ℕ) (hs hs' : List ℕ) → length hs' ≡ length hs → ((p : ℕ) → n ≤ p → get_or hs p 0 ≡ 0) → ((p : ℕ) → p < n → get_or hs' p 0 ≡ get_or (heights_from (length hs) n arcs from) p 0) → SameFrom n hs hs' → hs' ≡ heights_from (length hs) n arcs from
level_whole n arcs from hs hs' size zeros front beyond = ext_get_or 0 hs' (heights_from (length hs) n arcs from) (size ∙ sym (heights_size (length hs) n arcs from)) (λ p _. elim (cases_lt p n) [
  | inl h ↦ front p h
  | inr h ↦ beyond p h ∙ zeros p h ∙ sym (heights_beyond (length hs) n arcs from p h)
])

-- where Survey declines such tables, every defined height is 0
pub refused_zero : (from n : ℕ) (arcs : List Arc) (hs : List ℕ) (work : Working) (e : Refusal) → Refused from n arcs hs work e → FitsIn n arcs hs work → AllLawful n arcs → Small n arcs → (p : ℕ) → p < n → get_or (heights_from (length hs) n arcs from) p 0 ≡ 0
refused_zero from n arcs hs work e (apart q r a) fits lawful small p h = unfound (length hs) n arcs from q a.there (apart_none n arcs from lawful r.there q a.apart) p
refused_zero from n arcs hs work e (before d) fits lawful small p h = elim (cases_lt from n) [
  | inl there ↦ absurd (not_ready from n arcs hs work e d (record { there = there; fits = fits; lawful = lawful; small = small }))
  | inr away ↦ unfound (length hs) n arcs from p h (outside_none n arcs from lawful away p h) p
]

-- heights that Load accepts are low
pub low_accepted : (n : ℕ) (arcs : List Arc) (hs order : List ℕ) → n ≤ length hs → length arcs ≤ length order → ((own : Own) → Fits n arcs hs own → Accepted n arcs hs own) → (p : ℕ) → p < n → get_or hs p 0 ≤ 163830000
low_accepted n arcs hs order room more law = (law (record { heights = hs; leaving = hs; leavers = order; entering = hs; enterers = order }) (record { given = room; kept = room; leaving = room; leavers = more; entering = room; enterers = more })).within.low

-- what is known where Survey declined, and where it did not
pub answered_err : (from n : ℕ) (arcs : List Arc) (hs hs' : List ℕ) (work : Working) (r : Result (Unit {0}) Refusal) → is_err r ≡ true → Answered from n arcs hs hs' work r → (e : Refusal) × Refused from n arcs hs work e
answered_err from n arcs hs hs' work (Ok u) f a = absurd (false≢true f)
answered_err from n arcs hs hs' work (Err e) f a = (e, a.0)

pub answered_ok : {P : Type 0} (from n : ℕ) (arcs : List Arc) (hs hs' : List ℕ) (work : Working) (r : Result (Unit {0}) Refusal) → is_err r ≡ false → Answered from n arcs hs hs' work r → OnOk r P → Ready from n arcs hs work × ((p : ℕ) → p < n → LeastSum (flat n arcs) from p (get_or hs' p 0)) × P
answered_ok from n arcs hs hs' work (Ok u) f a p = (a.0, a.1, p)
answered_ok from n arcs hs hs' work (Err e) f a p = absurd (false≢true (sym f))
