-- Nets, and their arcs by either end. Assumes nothing.
use Rattle.std.specs.Prelude.{◌≡◌, ℕ, ◌^◌, ◌≤◌, List, length, Ok, Err, Result}
use Rattle.ground.specs.Questions.{arcs_at}
use Rattle.arcs.specs.Index.{start_of, Indexed}
use Rattle.arcs.specs.Tables.{end_at, AllLawful, LowestUnlawful}
use Rattle.ground.specs.declared.end.End.{End}
use Rattle.arcs.specs.declared.net.Net.{Net}
use Rattle.terms.specs.declared.arc.Arc.{Arc}
use Rattle.terms.specs.declared.refusal.Refusal.{Refusal}
use Rattle.terms.specs.declared.refusal.Refusal.TheVariants.{ArcUnlawful, Outside}

-- why arcs between n places are no net: the lowest unlawful one, or that they are more than a number tells
pub data NoNet (n : ℕ) (arcs : List Arc) : Refusal → Type 0 where
  unlawful : (j : ℕ) → LowestUnlawful n arcs j → NoNet n arcs (ArcUnlawful j)
  many : AllLawful n arcs → 2 ^ 32 ≤ length arcs → NoNet n arcs Outside

-- the net of these arcs, or why they are none
abbrev pub Made : ℕ → List Arc → Result Net Refusal → Type 0
Made n arcs (Ok net) = (net.places ≡ n) × (net.arcs.now ≡ arcs)
Made n arcs (Err e) = NoNet n arcs e

-- the arcs of a net with this end at p
abbrev pub arcs_by : End → Net → ℕ → List ℕ
arcs_by end net p = arcs_at (end_at end net.arcs.now) (length net.arcs.now) p

-- how many arcs of a net have this end at a place below p
abbrev pub start_by : End → Net → ℕ → ℕ
start_by end net p = start_of (end_at end net.arcs.now) (length net.arcs.now) p

-- the two tables are an index of a net by this end
abbrev pub IndexedBy : End → Net → List ℕ → List ℕ → Type 0
IndexedBy end net ends order = Indexed (end_at end net.arcs.now) (length net.arcs.now) net.places ends order
