-- What levelling leaves of the heights. Assumes nothing.
use Rattle.std.specs.Prelude.{◌≡◌, ℕ, ◌<◌, List, length, slice_index}
use Rattle.arcs.specs.Tables.{AllLawful}
use Rattle.heights.specs.LeastSums.{heights_from}
use Rattle.survey.specs.Surveys.{Fits, Ready, Small}
use Rattle.survey.specs.declared.working.Working.{Working}
use Rattle.terms.specs.declared.arc.Arc.{Arc}

-- The first n heights are the defined ones where the arcs are lawful and few and the tables fit, wherever from; and 0
-- where Survey does not measure.
pub record Levelled (from n : ℕ) (arcs : List Arc) (heights : List ℕ) (work : Working) (heights' : List ℕ) : Type 0 where
  pub measured : Fits n arcs heights work → AllLawful n arcs → Small n arcs → (p : ℕ) → p < n → slice_index heights' p ≡ slice_index (heights_from (length heights) n arcs from) p
  pub declined : (Ready from n arcs heights work → ⊥) → (p : ℕ) → p < n → slice_index heights' p ≡ 0
