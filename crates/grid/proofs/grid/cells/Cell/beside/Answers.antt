use Rattle.std.proofs.Common.{rules, sym, refl, ap, ap₂, ◌∙◌, mul_comm, mul-le-mul, ◌≤◌, arith, w32, SFits, to_z, of_z}
use Rattle.std.proofs.lemmas.Nat.{div-mul-add, mod-mul-add, mul-add-lt}
use Rattle.grid.proofs.Beside.{found}
use Rattle.grid.proofs.grid.cells.Cell.beside.Goals as goal
use Rattle.grid.specs.Compass.{number, moved, place_at}

pub returns-in_err-row-clause-place : goal.returns-in_err-row-clause-place
returns-in_err-row-clause-place c =
    let cell = c.args.self in
    let g = cell.grid in
    let s = c.step-step.result in
    let f : SFits w32 s.rows = search rules in
    let h : SFits w32 s.columns = search rules in
    rw c.from_residual.ensures (ap (λ v. place_at g.columns v (moved g.columns cell.column (to_z w32 (of_z w32 s.columns)))) (sym c.in_err-row.was)
    ∙ found g.rows g.columns cell.place cell.row cell.column (number c.args.direction) s c.moved.result _ cell.row_is cell.column_is c.step-step.ensures f h c.moved.ensures.to refl)

pub returns-in_err-column-clause-place : goal.returns-in_err-column-clause-place
returns-in_err-column-clause-place c =
    let cell = c.args.self in
    let g = cell.grid in
    let s = c.step-step.result in
    let f : SFits w32 s.rows = search rules in
    let h : SFits w32 s.columns = search rules in
    rw c.from_residual-in_err-column.ensures (ap₂ (place_at g.columns) (sym c.in_ok-row.was) (sym c.in_err-column.was)
    ∙ found g.rows g.columns cell.place cell.row cell.column (number c.args.direction) s c.moved.result c.moved-2.result cell.row_is cell.column_is c.step-step.ensures f h c.moved.ensures.to c.moved-2.ensures.to)

pub overflow_mul-result : goal.overflow_mul-result
overflow_mul-result c =
    let few : c.in_ok-row.row ≤ 128 = omega (arith, c.in_ok-row.ensures.within) in
    -- by either side: of a place counted by the wrong one it is the place that is wrong, and not its size
    record { fits = omega (arith, mul-le-mul few c.args.self.grid.few_columns, mul-le-mul few c.args.self.grid.few_rows) }

pub invariant_of-result : goal.invariant_of-result
invariant_of-result c =
    let g = c.args.self.grid in
    record {
      there = omega (arith, mul-add-lt c.in_ok-row.row g.columns c.in_ok-column.column g.rows c.in_ok-row.ensures.within c.in_ok-column.ensures.within, mul_comm g.rows g.columns);
      row_is = sym (div-mul-add c.in_ok-row.row g.columns c.in_ok-column.column c.in_ok-column.ensures.within);
      column_is = sym (mod-mul-add c.in_ok-row.row g.columns c.in_ok-column.column c.in_ok-column.ensures.within);
    }

pub returns-clause-place : goal.returns-clause-place
returns-clause-place c =
    let cell = c.args.self in
    let g = cell.grid in
    let s = c.step-step.result in
    let f : SFits w32 s.rows = search rules in
    let h : SFits w32 s.columns = search rules in
    ap₂ (place_at g.columns) (sym c.in_ok-row.was) (sym c.in_ok-column.was)
    ∙ found g.rows g.columns cell.place cell.row cell.column (number c.args.direction) s c.moved.result c.moved-2.result cell.row_is cell.column_is c.step-step.ensures f h c.moved.ensures.to c.moved-2.ensures.to
