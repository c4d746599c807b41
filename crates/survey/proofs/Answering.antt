-- What Survey answers, once it has measured in the front of the heights.
use Rattle.std.proofs.Common.{ℕ, ◌≤◌, List, ◌++◌, length, get_or, take, drop, Ok, Err, Result, ◌≡◌, sym, ap, ◌∙◌, subst, take-append-drop}
use Rattle.arcs.proofs.Fronts.{front_below}
use Rattle.arcs.specs.Index.{SameFrom}
use Rattle.queue.specs.Content.{free_entry}
use Rattle.survey.specs.Answers.{Answered, Refused, apart}
use Rattle.survey.specs.Sums.{flat, LeastSum}
use Rattle.survey.specs.Surveys.{Measured, Ready}
use Rattle.survey.specs.Workings.{Wiped}
use Rattle.survey.specs.declared.working.Working.{Working}
use Rattle.terms.specs.declared.arc.Arc.{Arc}
use Rattle.terms.specs.declared.refusal.Refusal.{Refusal}

pub answered : (from n : ℕ) (arcs : List Arc) (xs ys : List ℕ) (work : Working) → length ys ≡ n → Ready from n arcs xs work → (r : Result (Unit {0}) Refusal) → Measured from n arcs (take n xs) ys r → Answered from n arcs xs (ys ++ drop n xs) work r
answered from n arcs xs ys work size ready (Ok u) m = (ready, λ p h. subst (λ (x : ℕ). LeastSum (flat n arcs) from p x) (sym (front_below n xs ys size 0 p h)) (m.least p h))
answered from n arcs xs ys work size ready (Err e) m =
    (subst (Refused from n arcs xs work) (sym m.1) (apart m.0 ready m.2), ap (λ zs. zs ++ drop n xs) m.3 ∙ take-append-drop n xs)

-- a working table that is wiped after its needed entries were written to
pub wiped_after : (n m : ℕ) (work mid work' : Working) → SameFrom n work.ends.now mid.ends.now → SameFrom m work.order.now mid.order.now → SameFrom n work.sums.now mid.sums.now → ((k : ℕ) → n ≤ k → get_or mid.queue.now k free_entry ≡ get_or work.queue.now k free_entry) → Wiped n m mid work' → Wiped n m work work'
wiped_after n m work mid work' ends order sums queue w = record {
  ends = record { zero = w.ends.zero; beyond = λ k h. w.ends.beyond k h ∙ ends k h };
  order = record { zero = w.order.zero; beyond = λ k h. w.order.beyond k h ∙ order k h };
  sums = record { zero = w.sums.zero; beyond = λ k h. w.sums.beyond k h ∙ sums k h };
  queue = w.queue;
  queue_beyond = λ k h. w.queue_beyond k h ∙ queue k h;
}
