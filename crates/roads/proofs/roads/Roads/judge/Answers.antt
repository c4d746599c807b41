use Rattle.std.proofs.Common.{refl}
use Rattle.std.proofs.lemmas.Result.{err_from_is_err_and}
use Rattle.roads.specs.Loads.{short}
use Rattle.roads.proofs.Judging.{no_net, too_large, too_steep}
use Rattle.roads.proofs.roads.Roads.judge.Goals as goal

pub returns-then-not-fits-clause-judged : goal.returns-then-not-fits-clause-judged
returns-then-not-fits-clause-judged c = short (λ f. let e = c.if-not-fits.ensures.1 f in cc)

pub returns-in_err-net-clause-judged : goal.returns-in_err-net-clause-judged
returns-in_err-net-clause-judged c =
    let p = err_from_is_err_and c.from_residual.result c.from_residual.ensures.1 in
    rw (p.1, p.2) (no_net _ _ _ _ (c.if-not-fits.ensures.0 refl) _ c.in_err-net.ensures)

pub returns-then-not-within-clause-judged : goal.returns-then-not-within-clause-judged
returns-then-not-within-clause-judged c = too_large _ _ _ _ (c.if-not-fits.ensures.0 refl) c.in_ok-net.net c.in_ok-net.ensures (λ w. let e = c.if-not-within.ensures.1 w in cc)

pub returns-in-Some-clause-judged : goal.returns-in-Some-clause-judged
returns-in-Some-clause-judged c = too_steep _ _ _ _ (c.if-not-fits.ensures.0 refl) c.in_ok-net.net c.in_ok-net.ensures (c.if-not-within.ensures.0 refl) c.in-Some.arc c.in-Some.ensures
