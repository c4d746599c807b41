use Rattle.std.proofs.Common.{◌≡◌, ℕ, ◌<◌, get_or}
use Rattle.arcs.specs.Index.{SameFrom}
use Rattle.roads.proofs.check.copy.Given as goal

abbrev pub invariant-loop-p : goal.invariant-loop-p
invariant-loop-p l = ((k : ℕ) → k < l.p → get_or l.to k 0 ≡ get_or l.from k 0) × SameFrom l.places l.initial.to l.to
