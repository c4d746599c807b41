use Rattle.std.proofs.Common.{sym, refl, ◌∙◌}
use Rattle.std.proofs.lemmas.Bool.{lt-ltb, le-ltb, cond-true, cond-false}
use Rattle.plan.proofs.Admitting.{begun_is}
use Rattle.plan.proofs.Altering.{move_declines_lem, move_declined, move_done}
use Rattle.plan.proofs.Results.{ok_is}
use Rattle.plan.proofs.plan.Plan.move_to.Goals as goal

pub returns-then-place-header : goal.returns-then-place-header
returns-then-place-header c =
    let o = c.args.self.now.header in
    let h = c.in_ok-header.header in
    let is = begun_is o h c.in_ok-header.ensures in
    record {
      declined = sym (move_declines_lem o h is c.args.place ∙ cond-false _ _ _ (le-ltb _ _ c.if-place-header.true));
      kept = refl;
      state = λ m costs places queue. move_declined o h is m costs places queue c.args.place c.if-place-header.true;
    }

pub returns : goal.returns
returns c =
    let o = c.args.self.now.header in
    let h = c.in_ok-header.header in
    let is = begun_is o h c.in_ok-header.ensures in
    record {
      declined = sym (move_declines_lem o h is c.args.place ∙ cond-true _ _ _ (lt-ltb _ _ c.if-place-header.false));
      kept = tt;
      state = λ m costs places queue. move_done o h is m costs places queue c.args.place c.if-place-header.false c.in_ok-altered.field-0 (ok_is _ _ c.in_ok-altered.ensures);
    }
