use Rattle.std.proofs.Common.{arith}
use Rattle.arcs.proofs.Groups.{start_read}
use Rattle.arcs.proofs.index.start.Goals as goal

pub returns-else-place-eq0 : goal.returns-else-place-eq0
returns-else-place-eq0 c end m n h right = start_read end m n c.args.ends.now c.args.place (omega arith) h right
