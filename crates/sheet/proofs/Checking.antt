-- The pass that checks a sheet, one line at a time. Assumes nothing.
use Rattle.std.proofs.Common.{◌≡◌, ℕ, ◌+◌, List, [], ◌∷◌, ◌++◌, length, None, Ok, Err, Result, refl, sym, ap, ◌∙◌, append_assoc, arith}
use Rattle.std.specs.Result.{result_map_both}
use Rattle.terms.specs.declared.arc.Arc.{Arc}
use Rattle.terms.specs.declared.fault.SheetFault.{SheetFault}
use Rattle.sheet.proofs.Extents.{sheet_span, lines_few}
use Rattle.sheet.specs.declared.columns.Columns.{Columns}
use Rattle.sheet.specs.Columns.{columns_of}
use Rattle.sheet.specs.Sheets.{row_of, rows_of, and_these}

-- the line of names may not be missing
pub no_names : columns_of [] ≡ None
unfolding columns_of
no_names = refl

-- arcs before others, unless one of those is faulty
abbrev pub after : List Arc → Result (List Arc) SheetFault → Result (List Arc) SheetFault
after done r = result_map_both (λ arcs. done ++ arcs) (λ fault. fault) r

-- of these lines of values k are read, and the others say the rest
pub record Reading (order : Columns) (rows : List (List ℕ)) (k : ℕ) (left : List (List ℕ)) : Type 0 where
  pub count : k + length left ≡ length rows
  pub done : List Arc
  pub number : ℕ
  pub numbered : number ≡ k + 2
  pub so_far : rows_of order 2 rows ≡ after done (rows_of order number left)

pub none_read : (order : Columns) (rows : List (List ℕ)) → Reading order rows 0 rows
none_read order rows = record { count = omega arith; done = []; number = 2; numbered = omega arith; so_far = same (rows_of order 2 rows) }
  where
    same : (r : Result (List Arc) SheetFault) → r ≡ after [] r
    same (Ok arcs) = refl
    same (Err fault) = refl

module _ {order : Columns} {rows : List (List ℕ)} {k : ℕ} {line : List ℕ} {left : List (List ℕ)} (so : Reading order rows k (line ∷ left)) where
  pub line_right : (arc : Arc) → row_of order line ≡ Ok arc → Reading order rows (k + 1) left
  line_right arc h = record {
    count = omega (arith, so.count);
    done = so.done ++ arc ∷ [];
    number = so.number + 1;
    numbered = omega (arith, so.numbered);
    so_far = so.so_far ∙ rw h (more (rows_of order (so.number + 1) left));
  }
    where
      more : (r : Result (List Arc) SheetFault) → after so.done (and_these arc r) ≡ after (so.done ++ arc ∷ []) r
      more (Ok arcs) = ap Ok (sym (append_assoc so.done (arc ∷ []) arcs))
      more (Err fault) = refl

-- what the beginning of `check` rests on
pub ruleset beginning = (sheet_span, lines_few, no_names, none_read)
