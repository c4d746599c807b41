use Rattle.std.proofs.Common.{◌≡◌, [], Err, sym, refl, ap, ◌∙◌}
use Rattle.std.proofs.lemmas.Result.{err_from_is_err_and}
use Rattle.terms.specs.declared.refusal.Refusal.TheVariants.{StretchOutside}
use Rattle.method.specs.Calls.{stretch_to}
use Rattle.plan.proofs.Admitting.{begun_is, refusal_is, kept_since, carried_since, standing_at}
use Rattle.plan.proofs.Altering.{stretch_declines_lem, stretch_outside, stretch_within, stretch_declined, stretch_done}
use Rattle.plan.proofs.Results.{ok_is}
use Rattle.plan.proofs.plan.Plan.stretch_to.Goals as goal

pub returns-in_err-slack : goal.returns-in_err-slack
returns-in_err-slack c =
    let o = c.args.self.now.header in
    let h = c.in_ok-header.header in
    let is = begun_is o h c.in_ok-header.ensures in
    let r = c.from_residual-in_err-slack.result in
    let p = err_from_is_err_and r c.from_residual-in_err-slack.ensures.1 in
    let d = c.in_err-slack.ensures in
    let e : r ≡ Err StretchOutside = p.1 ∙ ap Err (p.2 ∙ d.1) in
    record {
      declined = λ m. refusal_is r StretchOutside e ∙ sym (stretch_declines_lem o h is m c.args.slack ∙ stretch_outside m c.args.slack d.0);
      kept = kept_since r StretchOutside e (standing_at o [] [] []) (standing_at o [] [] []) refl;
      state = λ m costs places queue. carried_since r StretchOutside e m (stretch_to c.args.slack) (standing_at o costs places queue) (standing_at o costs places queue) (stretch_declined o h is m costs places queue c.args.slack d.0);
    }

pub returns : goal.returns
returns c =
    let o = c.args.self.now.header in
    let h = c.in_ok-header.header in
    let is = begun_is o h c.in_ok-header.ensures in
    let d = c.in_ok-slack.ensures in
    record {
      declined = λ m. sym (stretch_declines_lem o h is m c.args.slack ∙ stretch_within m c.args.slack d.0);
      kept = tt;
      state = λ m costs places queue. stretch_done o h is m costs places queue c.args.slack d.0 c.in_ok-slack.slack d.1 c.in_ok-altered.field-0 (ok_is _ _ c.in_ok-altered.ensures);
    }
