-- When Load accepts tables, and why it declines them. Assumes nothing.
use Rattle.std.specs.Prelude.{◌≡◌, ℕ, ◌<◌, ◌≤◌, List, length, Ok, Err, Result}
use Rattle.arcs.specs.Index.{SameFrom}
use Rattle.arcs.specs.Tables.{AllLawful, LowestUnlawful}
use Rattle.roads.specs.Heights.{height_of, LowHeights, StepAt, Steps}
use Rattle.terms.specs.declared.arc.Arc.{Arc}
use Rattle.terms.specs.declared.refusal.Refusal.{Refusal}
use Rattle.terms.specs.declared.refusal.Refusal.TheVariants.{TableShort, ArcUnlawful, Outside, HeightStep}

-- the tables that roads keep their own heights and their index in
pub record Own : Type 0 where
  pub heights : List ℕ
  pub leaving : List ℕ
  pub leavers : List ℕ
  pub entering : List ℕ
  pub enterers : List ℕ

-- every table has an entry for each place or each arc
pub record Fits (n : ℕ) (arcs : List Arc) (heights : List ℕ) (own : Own) : Type 0 where
  pub given : n ≤ length heights
  pub kept : n ≤ length own.heights
  pub leaving : n ≤ length own.leaving
  pub leavers : length arcs ≤ length own.leavers
  pub entering : n ≤ length own.entering
  pub enterers : length arcs ≤ length own.enterers

-- the number of places, the number of arcs and every height are within their limits
pub record Within (n : ℕ) (arcs : List Arc) (heights : List ℕ) : Type 0 where
  pub few_places : n ≤ 16384
  pub few_arcs : length arcs ≤ 131072
  pub low : LowHeights n heights

-- arc j is the lowest whose head stands too high
pub record LowestSteep (arcs : List Arc) (heights : List ℕ) (j : ℕ) : Type 0 where
  pub there : j < length arcs
  pub steep : StepAt arcs heights j → ⊥
  pub lowest : (i : ℕ) → i < j → StepAt arcs heights i

-- the tables are accepted
pub record Accepted (n : ℕ) (arcs : List Arc) (heights : List ℕ) (own : Own) : Type 0 where
  pub fits : Fits n arcs heights own
  pub lawful : AllLawful n arcs
  pub within : Within n arcs heights
  pub steps : Steps arcs heights

-- why they are declined, the topmost reason
pub data Declined (n : ℕ) (arcs : List Arc) (heights : List ℕ) (own : Own) : Refusal → Type 0 where
  short : (Fits n arcs heights own → ⊥) → Declined n arcs heights own TableShort
  unlawful : (j : ℕ) → Fits n arcs heights own → LowestUnlawful n arcs j → Declined n arcs heights own (ArcUnlawful j)
  outside : Fits n arcs heights own → AllLawful n arcs → (Within n arcs heights → ⊥) → Declined n arcs heights own Outside
  steep : (j : ℕ) → Fits n arcs heights own → AllLawful n arcs → Within n arcs heights → LowestSteep arcs heights j → Declined n arcs heights own (HeightStep j)

-- what is found of the tables
abbrev pub Judged : {X : Type 0} → ℕ → List Arc → List ℕ → Own → Result X Refusal → Type 0
Judged n arcs heights own (Ok x) = Accepted n arcs heights own
Judged n arcs heights own (Err e) = Declined n arcs heights own e

-- the heights are copied, and entries beyond the needed ones stay
pub record Filled (n : ℕ) (arcs : List Arc) (heights : List ℕ) (own own' : Own) : Type 0 where
  pub copied : (p : ℕ) → p < n → height_of own'.heights p ≡ height_of heights p
  pub beyond : SameFrom n own.heights own'.heights
  pub leaving : SameFrom n own.leaving own'.leaving
  pub leavers : SameFrom (length arcs) own.leavers own'.leavers
  pub entering : SameFrom n own.entering own'.entering
  pub enterers : SameFrom (length arcs) own.enterers own'.enterers
