use Rattle.std.proofs.Common.{◌≡◌, ◌≤◌, ltb, length, get_or, drop}
use Rattle.terms.specs.Amounts.{◌⊕◌, far}
use Rattle.method.specs.Calls.{capped_sum}
use Rattle.method.specs.Turns.{all_of}
use Rattle.plan.proofs.total.total.Given as goal

abbrev pub invariant-loop-arc : goal.invariant-loop-arc
invariant-loop-arc l =
    (all_of (λ j. ltb j (length l.costs)) l.arcs ≡ all_of (λ j. ltb j (length l.costs)) (drop l.arc-index l.arcs))
    × (capped_sum (λ j. get_or l.costs j 0) l.arcs ≡ l.sum ⊕ capped_sum (λ j. get_or l.costs j 0) (drop l.arc-index l.arcs))
    × (l.sum ≤ far)
