-- When Survey measures, and what it answers. Assumes nothing.
use Rattle.std.specs.Prelude.{◌≡◌, ℕ, ◌<◌, ◌≤◌, List, length, Ok, Err, Result, slice_index}
use Rattle.arcs.specs.Tables.{AllLawful, LowestUnlawful}
use Rattle.roads.specs.Heights.{LowHeights, Steps}
use Rattle.survey.specs.Workings.{HasRoom}
use Rattle.survey.specs.declared.working.Working.{Working}
use Rattle.survey.specs.Sums.{flat, Apart, LeastSum}
use Rattle.terms.specs.Amounts.{far}
use Rattle.terms.specs.declared.arc.Arc.{Arc}
use Rattle.terms.specs.declared.refusal.Refusal.{Refusal}
use Rattle.terms.specs.declared.refusal.Refusal.TheVariants.{NoSuchPlace, TableShort, ArcUnlawful, Outside, NotReached}

-- the heights and every column have an entry for each place or each arc
pub record Fits (n : ℕ) (arcs : List Arc) (heights : List ℕ) (work : Working) : Type 0 where
  pub given : n ≤ length heights
  pub room : HasRoom work n (length arcs)

-- the numbers of places and of arcs are within their limits
pub record Small (n : ℕ) (arcs : List Arc) : Type 0 where
  pub few_places : n ≤ 16384
  pub few_arcs : length arcs ≤ 131072

-- there is something to measure
pub record Ready (from n : ℕ) (arcs : List Arc) (heights : List ℕ) (work : Working) : Type 0 where
  pub there : from < n
  pub fits : Fits n arcs heights work
  pub lawful : AllLawful n arcs
  pub small : Small n arcs

-- why there is not, the topmost reason
pub data Declined (from n : ℕ) (arcs : List Arc) (heights : List ℕ) (work : Working) : Refusal → Type 0 where
  no_place : n ≤ from → Declined from n arcs heights work NoSuchPlace
  short : from < n → (Fits n arcs heights work → ⊥) → Declined from n arcs heights work TableShort
  unlawful : (j : ℕ) → from < n → Fits n arcs heights work → LowestUnlawful n arcs j → Declined from n arcs heights work (ArcUnlawful j)
  outside : from < n → Fits n arcs heights work → AllLawful n arcs → (Small n arcs → ⊥) → Declined from n arcs heights work Outside

abbrev pub Judged : {X : Type 0} → ℕ → ℕ → List Arc → List ℕ → Working → Result X Refusal → Type 0
Judged from n arcs heights work (Ok x) = Ready from n arcs heights work
Judged from n arcs heights work (Err e) = Declined from n arcs heights work e

-- p is the lowest place that no chain reaches
pub record LowestApart (from n : ℕ) (arcs : List Arc) (p : ℕ) : Type 0 where
  pub there : p < n
  pub apart : Apart (flat n arcs) from p
  pub lowest : (q : ℕ) → q < p → (x : ℕ) × LeastSum (flat n arcs) from q x

-- heights of n places that are least sums: low, and with no arc too steep
pub record Measures (from n : ℕ) (arcs : List Arc) (heights : List ℕ) : Type 0 where
  pub least : (p : ℕ) → p < n → LeastSum (flat n arcs) from p (slice_index heights p)
  pub low : LowHeights n heights
  pub steps : Steps arcs heights

-- what measuring answers, and what it makes of the heights of n places
abbrev pub Measured : ℕ → ℕ → List Arc → List ℕ → List ℕ → Result (Unit {0}) Refusal → Type 0
Measured from n arcs heights heights' (Ok u) = Measures from n arcs heights'
Measured from n arcs heights heights' (Err e) = (p : ℕ) × (e ≡ NotReached p) × LowestApart from n arcs p × (heights' ≡ heights)

-- sums handed over: every one is known, and the heights are those; or the lowest that is not
abbrev pub HandedOver : List ℕ → List ℕ → List ℕ → Result (Unit {0}) Refusal → Type 0
HandedOver sums heights heights' (Ok u) = ((p : ℕ) → p < length sums → slice_index sums p < far) × (heights' ≡ sums)
HandedOver sums heights heights' (Err e) = (p : ℕ) × (e ≡ NotReached p) × (p < length sums) × (far ≤ slice_index sums p) × ((q : ℕ) → q < p → slice_index sums q < far) × (heights' ≡ heights)
