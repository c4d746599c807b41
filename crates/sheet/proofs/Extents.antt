-- How far a sheet reaches. Assumes nothing.
use Rattle.std.proofs.Common.{◌≡◌, ℕ, ◌+◌, ◌≤◌, eqb, List, [], ◌∷◌, length, arith}
use Rattle.std.specs.List.{onto_first}
use Rattle.std.proofs.lemmas.Bool.{cond_both}
use Rattle.std.proofs.lemmas.List.Sums.{sum_by-cons}
use Rattle.text.specs.Pieces.{lines_of}
use Rattle.sheet.specs.Lines.{filled, sheet_lines, span}

pub span_more : (l : List ℕ) (ls : List (List ℕ)) → span (l ∷ ls) ≡ length l + 1 + span ls
span_more l ls = sum_by-cons (λ line. length line + 1) l ls

filled_span : (ls : List (List ℕ)) → span (filled ls) ≤ span ls
filled_span [] = omega arith
filled_span ([] ∷ ls) = omega arith
filled_span ((b ∷ bs) ∷ ls) = omega (arith, filled_span ls, span_more)

-- the lines of a text take up its bytes, and one more where no byte 10 ends the last
lines_span : (bs : List ℕ) → span (lines_of bs) ≤ length bs + 1
lines_span [] = omega arith
lines_span (b ∷ bs) =
    cond_both (eqb b 10) ([] ∷ lines_of bs) (onto_first b (lines_of bs)) (λ ls. span ls ≤ length (b ∷ bs) + 1) (λ _. omega (arith, lines_span bs, span_more)) (λ _. more (lines_of bs) (lines_span bs))
  where
    more : (ls : List (List ℕ)) → span ls ≤ length bs + 1 → span (onto_first b ls) ≤ length (b ∷ bs) + 1
    more [] h = omega (arith, span_more)
    more (l ∷ ls) h = omega (arith, span_more)

pub sheet_span : (bs : List ℕ) → span (sheet_lines bs) ≤ length bs + 1
sheet_span bs = omega (arith, filled_span (lines_of bs), lines_span bs)

pub lines_few : (ls : List (List ℕ)) → length ls ≤ span ls
lines_few [] = omega arith
lines_few (l ∷ ls) = omega (arith, lines_few ls, span_more)
