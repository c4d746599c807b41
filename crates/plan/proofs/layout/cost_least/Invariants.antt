use Rattle.std.proofs.Common.{◌≡◌, ℕ, ◌<◌, length, get_or}
use Rattle.plan.proofs.layout.cost_least.Given as goal

abbrev pub invariant-loop-arc : goal.invariant-loop-arc
invariant-loop-arc g l = (length l.costs ≡ (g.G.Ground.meaning l.site).arcs) × ((j : ℕ) → j < l.arc → get_or l.costs j 0 ≡ (g.G.Ground.meaning l.site).least j)
