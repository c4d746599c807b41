use Rattle.std.proofs.Common.{refl, arith, rules}
use Rattle.std.proofs.lemmas.Result.{err_from_is_err_and}
use Rattle.std.proofs.lemmas.List.{length-take-le}
use Rattle.arcs.proofs.Fronts.{front_beyond}
use Rattle.survey.specs.Answers.{before}
use Rattle.survey.proofs.Answering.{answered, wiped_after}
use Rattle.survey.proofs.Judging.{not_ready}
use Rattle.survey.proofs.survey.survey.Goals as goal

pub returns-in_err-net-clause-answer : goal.returns-in_err-net-clause-answer
returns-in_err-net-clause-answer c =
    let p = err_from_is_err_and c.from_residual.result c.from_residual.ensures.1 in
    rw (p.1, p.2) (before c.in_err-net.ensures.judged, refl)

pub returns-in_err-net-clause-wiped : goal.returns-in_err-net-clause-wiped
returns-in_err-net-clause-wiped c r = absurd (not_ready _ _ _ _ _ _ c.in_err-net.ensures.judged r)

pub returns-clause-answer : goal.returns-clause-answer
returns-clause-answer c = answered _ _ _ _ _ _ (omega (arith, length-take-le c.args.places c.args.heights.now c.in_ok-net.ensures.judged.fits.given)) c.in_ok-net.ensures.judged _ (search rules)

pub returns-clause-wiped : goal.returns-clause-wiped
returns-clause-wiped c r =
    let n = c.args.places in
    let work = c.args.work.now in
    wiped_after _ _ _ _ _ (search rules) (search rules)
    (front_beyond n _ _ (omega (arith, length-take-le n work.sums.now r.fits.room.sums)) _)
    (front_beyond n _ _ (omega (arith, length-take-le n work.queue.now r.fits.room.queue)) _)
    c.wipe.ensures.wiped
