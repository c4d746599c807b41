use Rattle.std.proofs.Common.{length, sym, ◌∙◌, arith}
use Rattle.heights.proofs.Levelling.{answered_err, answered_ok, low_accepted, measured, refused_zero}
use Rattle.heights.proofs.level.Goals as goal

pub returns-then-is_err-clause-level : goal.returns-then-is_err-clause-level
returns-then-is_err-clause-level c =
    let r = answered_err _ _ _ _ _ _ c.survey.result (sym c.if-is_err.ensures.value) c.survey.ensures.answer in
    record {
      measured = λ fits lawful small p h. c.clear.ensures.zero p h ∙ sym (refused_zero _ _ _ _ _ r.0 r.1 fits lawful small p h);
      declined = λ _. c.clear.ensures.zero;
    }

pub returns-else-is_err-clause-level : goal.returns-else-is_err-clause-level
returns-else-is_err-clause-level c =
    let r = answered_ok _ _ _ _ _ _ c.survey.result (sym c.if-is_err.ensures.value) c.survey.ensures.answer c.survey.ensures.law in
    let ready = r.0 in
    let hs = c.survey.new.heights in
    record {
      measured = λ _ _ _. measured (length c.args.heights.now) c.args.places c.args.arcs.now c.args.from ready.lawful ready.there hs ready.fits.given (low_accepted c.args.places c.args.arcs.now hs c.args.work.now.order.now (omega (arith, ready.fits.given)) ready.fits.room.order r.2) r.1;
      declined = λ away. absurd (away ready);
    }
