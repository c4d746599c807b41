use Rattle.std.proofs.Common.{rules, sym, refl, ◌∙◌}
use Rattle.std.proofs.lemmas.Option.{slice_get_past, slice_get_read}
use Rattle.grid.proofs.Inner.{neighbours, inner_get, inner_past}
use Rattle.grid.proofs.grid.cells.Cell.entering.Goals as goal

pub returns-in_err-get : goal.returns-in_err-get
returns-in_err-get c =
    let cell = c.args.self in
    c.from_residual.ensures ∙ sym (inner_past cell.grid.rows cell.grid.columns cell.place (sym c.is_inner.ensures ∙ c.if-is_inner.true) c.args.k (slice_get_past neighbours c.args.k (search rules)))

pub returns-in_ok-get : goal.returns-in_ok-get
returns-in_ok-get c =
    let cell = c.args.self in
    c.entered_by.ensures ∙ sym (inner_get cell.grid.rows cell.grid.columns cell.place (sym c.is_inner.ensures ∙ c.if-is_inner.true) c.args.k _ (slice_get_read neighbours 8 c.args.k _ refl (search rules) (search rules)))
