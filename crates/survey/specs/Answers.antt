-- What Survey answers, and what it leaves of the tables. Assumes nothing.
use Rattle.std.specs.Prelude.{◌≡◌, ℕ, ◌<◌, List, Ok, Err, Result, slice_index}
use Rattle.survey.specs.Sums.{flat, LeastSum}
use Rattle.survey.specs.Surveys.{Declined, LowestApart, Ready}
use Rattle.survey.specs.declared.working.Working.{Working}
use Rattle.terms.specs.declared.arc.Arc.{Arc}
use Rattle.terms.specs.declared.refusal.Refusal.{Refusal}
use Rattle.terms.specs.declared.refusal.Refusal.TheVariants.{NotReached}

-- why Survey declines: there is nothing to measure, or some place is not reached
pub data Refused (from n : ℕ) (arcs : List Arc) (heights : List ℕ) (work : Working) : Refusal → Type 0 where
  before : {e : Refusal} → Declined from n arcs heights work e → Refused from n arcs heights work e
  apart : (p : ℕ) → Ready from n arcs heights work → LowestApart from n arcs p → Refused from n arcs heights work (NotReached p)

-- each height is the least sum, or the heights are as found and a refusal says why
abbrev pub Answered : ℕ → ℕ → List Arc → List ℕ → List ℕ → Working → Result (Unit {0}) Refusal → Type 0
Answered from n arcs heights heights' work (Ok u) = Ready from n arcs heights work × ((p : ℕ) → p < n → LeastSum (flat n arcs) from p (slice_index heights' p))
Answered from n arcs heights heights' work (Err e) = Refused from n arcs heights work e × (heights' ≡ heights)
