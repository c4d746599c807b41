use Rattle.std.proofs.Common.{arith}
use Rattle.arcs.specs.Nets.{unlawful, many}
use Rattle.arcs.proofs.net.Net.new.Goals as goal

pub returns-in-Some : goal.returns-in-Some
returns-in-Some c = unlawful c.in-Some.arc c.in-Some.ensures

pub returns-then-arcs : goal.returns-then-arcs
returns-then-arcs c = many c.in_default.ensures (omega arith)
