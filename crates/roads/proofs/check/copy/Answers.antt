use Rattle.std.proofs.Common.{◌<◌, ◌≢◌, length, ◌∙◌, arith, get_or-set_other, get_or-set_same, below_more}
use Rattle.roads.proofs.check.copy.Goals as goal

pub loop-p-preserved : goal.loop-p-preserved
loop-p-preserved c =
    let i = c.loop-p.p in
    let lt : i < length c.loop-p.to = omega arith in (
      below_more _ _ (λ k h. let ne : k ≢ i = omega arith in get_or-set_other _ i k _ 0 ne ∙ c.loop-p.invariant.0 k h) (get_or-set_same _ i _ 0 lt),
      λ k h. let ne : k ≢ i = omega arith in get_or-set_other _ i k _ 0 ne ∙ c.loop-p.invariant.1 k h,
    )
