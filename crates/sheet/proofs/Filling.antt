-- The pass that fills a table, one entry at a time. Assumes nothing.
use Rattle.std.proofs.Common.{◌≡◌, ℕ, ◌+◌, ◌<◌, ◌≤◌, List, [], ◌∷◌, ◌++◌, length, take, drop, set, Ok, Err, Result, sym, refl, ap, ◌∙◌, append_assoc, append-nil, arith, take-append-drop}
use Rattle.std.proofs.lemmas.List.{take_all, take_more_set, drop_more, drop-set-lt, drop_all}
use Rattle.terms.specs.declared.arc.Arc.{Arc}
use Rattle.terms.specs.declared.fault.LineFault.{LineFault}
use Rattle.terms.specs.declared.fault.SheetFault.{SheetFault}
use Rattle.sheet.specs.declared.columns.Columns.{Columns}
use Rattle.sheet.specs.Sheets.{row_of, rows_of, in_line, and_these, over}
use Rattle.sheet.specs.Fills.{or_skip, readable, written}

-- the first i entries hold the arcs so far, and with those left the table becomes what all of them make of it as it was
pub record Filling (all was table : List Arc) (i : ℕ) (left : List Arc) : Type 0 where
  pub ends : take i table ++ written left (drop i table) ≡ written all was

pub none_yet : (all was : List Arc) → Filling all was was 0 all
none_yet all was = record { ends = refl }

no_room : (arcs : List Arc) → written arcs [] ≡ []
no_room [] = refl
no_room (a ∷ arcs) = refl

module _ {all was table : List Arc} {i : ℕ} {left : List Arc} (so_far : Filling all was table i left) where
  pub one_more : (arc : Arc) (more : List Arc) → i < length table → left ≡ arc ∷ more → Filling all was (set table i arc) (i + 1) more
  one_more arc more room e = record {
    ends = rw (take_more_set table i arc room, drop-set-lt (i + 1) table i arc (omega arith), append_assoc)
        (ap (λ rest. take i table ++ written (arc ∷ more) rest) (sym (drop_more table i arc room)) ∙ ap (λ arcs. take i table ++ written arcs (drop i table)) (sym e) ∙ so_far.ends);
  }

  pub none_left : left ≡ [] → table ≡ written all was
  none_left e = sym (take-append-drop i table) ∙ ap (λ arcs. take i table ++ written arcs (drop i table)) (sym e) ∙ so_far.ends

  pub table_full : length table ≤ i → table ≡ written all was
  table_full past =
      sym (ap (λ rest. take i table ++ written left rest) (drop_all i table past) ∙ ap (λ rest. take i table ++ rest) (no_room left) ∙ append-nil (take i table) ∙ take_all i table past)
      ∙ so_far.ends

-- where each line names an arc, those are the readable ones
readable_all : (order : Columns) (k : ℕ) (lines : List (List ℕ)) (arcs : List Arc) → rows_of order k lines ≡ Ok arcs → readable order lines ≡ arcs
readable_all order k [] arcs e = cc
readable_all order k (line ∷ lines) arcs e = step (row_of order line) (rows_of order (k + 1) lines) (readable_all order (k + 1) lines) e
  where
    step : (r : Result Arc LineFault) (more : Result (List Arc) SheetFault) → ((rest : List Arc) → more ≡ Ok rest → readable order lines ≡ rest) → in_line k r (λ arc. and_these arc more) ≡ Ok arcs → or_skip r (readable order lines) ≡ arcs
    step (Ok arc) (Ok rest) same e = let is = same rest refl in cc
    step (Ok arc) (Err fault) same e = cc
    step (Err fault) more same e = cc

-- arcs for which there is room stand at the front, and the rest of the table stays
room_for_all : (arcs table : List Arc) → length arcs ≤ length table → written arcs table ≡ over arcs table
room_for_all [] table h = refl
room_for_all (a ∷ arcs) [] h = absurd (omega arith)
room_for_all (a ∷ arcs) (t ∷ table) h = ap (λ rest. a ∷ rest) (room_for_all arcs table (omega arith))

pub filled_whole : (order : Columns) (lines : List (List ℕ)) (arcs table : List Arc) → rows_of order 2 lines ≡ Ok arcs → length arcs ≤ length table → written (readable order lines) table ≡ over arcs table
filled_whole order lines arcs table e room =
    ap (λ all. written all table) (readable_all order 2 lines arcs e) ∙ room_for_all arcs table room
