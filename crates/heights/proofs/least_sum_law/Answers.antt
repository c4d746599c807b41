use Rattle.heights.proofs.Summing.{least_sum_law}
use Rattle.heights.proofs.least_sum_law.Goals as goal

pub returns : goal.returns
returns c = least_sum_law
