use Rattle.roads.proofs.Filling.{copied_low, copied_steps}
use Rattle.roads.proofs.roads.Roads.fill.Goals as goal

pub invariant_of-self-clause-low_heights : goal.invariant_of-self-clause-low_heights
invariant_of-self-clause-low_heights c = copied_low _ _ _ c.copy.ensures.copied c.requires.within.low

pub invariant_of-self-clause-steps : goal.invariant_of-self-clause-steps
invariant_of-self-clause-steps c = copied_steps _ _ _ c.copy.ensures.copied _ c.requires.lawful c.requires.steps
