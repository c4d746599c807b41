-- The phase of a plan as the method has it. Assumes nothing.
use Rattle.method.specs.States.{changed, under_way, settled, Phase as Stage}
use Rattle.plan.specs.declared.phase.Phase.{Phase}
use Rattle.plan.specs.declared.phase.Phase.TheVariants.{Changed, UnderWay, Settled}

abbrev pub stage_of : Phase → Stage
stage_of Changed = changed
stage_of UnderWay = under_way
stage_of Settled = settled
