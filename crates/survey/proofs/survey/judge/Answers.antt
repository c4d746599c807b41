use Rattle.std.proofs.Common.{refl, inl, inr, arith, rules}
use Rattle.std.proofs.lemmas.Result.{err_from_is_err_and}
use Rattle.arcs.specs.Tables.{AllLawful}
use Rattle.survey.specs.Surveys.{no_place, short, outside}
use Rattle.survey.proofs.Judging.{no_net}
use Rattle.survey.proofs.survey.judge.Goals as goal
use Rattle.survey.proofs.survey.judge.Goals.{then-n-heights-via-then-n-heights, then-n-heights-via-else-n-heights+then-not-has_room}

pub returns-then-from-places-clause-judged : goal.returns-then-from-places-clause-judged
returns-then-from-places-clause-judged c = no_place (omega arith)

pub returns-then-n-heights-clause-judged : goal.returns-then-n-heights-clause-judged
returns-then-n-heights-clause-judged c =
    short (omega arith) (λ f. elim c.then-n-heights.branch [
      | then-n-heights-via-then-n-heights w ↦ omega (arith, f.given)
      | then-n-heights-via-else-n-heights+then-not-has_room w ↦ (let e = w.has_room.ensures.1 f.room in cc)
    ])

pub returns-in_err-net-clause-judged : goal.returns-in_err-net-clause-judged
returns-in_err-net-clause-judged c =
    let p = err_from_is_err_and c.from_residual.result c.from_residual.ensures.1 in
    rw (p.1, p.2) (no_net _ _ _ _ _ (omega arith) (record { given = omega arith; room = c.if-not-has_room.ensures.0 refl }) _ c.in_err-net.ensures)

pub returns-then-n-gt16384-clause-judged : goal.returns-then-n-gt16384-clause-judged
returns-then-n-gt16384-clause-judged c =
    let lawful : AllLawful c.args.places c.args.arcs.now = search rules in
    outside (omega arith) (record { given = omega arith; room = c.if-not-has_room.ensures.0 refl }) lawful
    (λ s. elim c.then-n-gt16384.either [ inl h ↦ omega (arith, s.few_places) | inr h ↦ omega (arith, s.few_arcs) ])
