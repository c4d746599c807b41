-- Arcs written out as a sheet are read back. Assumes nothing.
use Rattle.std.proofs.Common.{◌≡◌, ◌≢◌, ℕ, ◌+◌, ◌-◌, ◌<◌, ◌≤◌, List, [], ◌∷◌, ◌++◌, map, length, take, All, Some, Ok, decimal, refl, ap, ◌∙◌, append_assoc, arith, length-append, length-take}
use lib.ListN.{length-map}
use Rattle.std.specs.List.{flat_map}
use Rattle.std.proofs.lemmas.Bool.Decides.{nat_tests}
use Rattle.std.proofs.lemmas.Fmt.{decimal_nonempty}
use Rattle.std.proofs.lemmas.List.Elements.{All-cons, All-head, All-tail, All-append}
use Rattle.terms.specs.Amounts.{far}
use Rattle.terms.specs.declared.arc.Arc.{Arc}
use Rattle.text.specs.Pieces.{lines_of, fields_of}
use Rattle.text.proofs.Back.{Without, field_back, last_field_back, line_back, decimal_without, without_by_test}
use Rattle.text.proofs.Digits.{number_back}
use Rattle.sheet.specs.declared.columns.Columns.{Columns}
use Rattle.sheet.specs.declared.columns.Columns.TheVariants.{FromToLeast, FromLeastTo, ToFromLeast, ToLeastFrom, LeastFromTo, LeastToFrom}
use Rattle.sheet.specs.Columns.{name_line, columns_of, arc_of}
use Rattle.sheet.specs.Lines.{filled, sheet_lines, span}
use Rattle.sheet.specs.Sheets.{row_of, rows_of, arcs_of, arcs_under, in_line, and_these, arc_in, end_of}
use Rattle.sheet.specs.Typed.{line_of, typed_arc, typed_sheet, Typable, Stops}
use Rattle.sheet.proofs.Extents.{span_more, sheet_span}
use Rattle.sheet.proofs.Whole.{arcs_count}
use Rattle.sheet.proofs.Filling.{filled_whole}

-- the bytes of a line of three numbers, without byte 10
three : ℕ → ℕ → ℕ → List ℕ
three x y z = decimal x ++ 32 ∷ (decimal y ++ 32 ∷ decimal z)

three_fields : (x y z : ℕ) → x ≤ far → y ≤ far → z ≤ far → fields_of (three x y z) ≡ decimal x ∷ decimal y ∷ decimal z ∷ []
unfolding three
three_fields x y z hx hy hz =
    field_back (decimal x) _ (decimal_without 32 x (omega arith) hx)
    ∙ ap (λ r. decimal x ∷ r) (field_back (decimal y) _ (decimal_without 32 y (omega arith) hy))
    ∙ ap (λ r. decimal x ∷ decimal y ∷ r) (last_field_back (decimal z) (decimal_without 32 z (omega arith) hz))

three_row : (order : Columns) (x y z : ℕ) → x ≤ far → y ≤ far → z ≤ far → row_of order (three x y z) ≡ Ok (arc_of order x y z)
unfolding row_of
three_row order x y z hx hy hz =
    ap (arc_in order) (three_fields x y z hx hy hz)
    ∙ rw (number_back x hx, number_back y hy, number_back z hz) refl

names_back : (order : Columns) → columns_of (name_line order) ≡ Some order
unfolding columns_of
names_back FromToLeast = refl
names_back FromLeastTo = refl
names_back ToFromLeast = refl
names_back ToLeastFrom = refl
names_back LeastFromTo = refl
names_back LeastToFrom = refl

-- an arc's line without byte 10, under each order
bare : Columns → Arc → List ℕ
bare FromToLeast a = three a.tail a.head a.least
bare FromLeastTo a = three a.tail a.least a.head
bare ToFromLeast a = three a.head a.tail a.least
bare ToLeastFrom a = three a.head a.least a.tail
bare LeastFromTo a = three a.least a.tail a.head
bare LeastToFrom a = three a.least a.head a.tail

-- what is shown of any three numbers holds of an arc's line
bare_by : (P : List ℕ → Arc → List ℕ → Type 0) (order : Columns) (a : Arc) → Typable a → ((x y z : ℕ) → x ≤ far → y ≤ far → z ≤ far → P (three x y z) (arc_of order x y z) (line_of x y z)) → P (bare order a) a (typed_arc order a)
unfolding bare
bare_by P FromToLeast a t h = h _ _ _ t.0 t.1 t.2
bare_by P FromLeastTo a t h = h _ _ _ t.0 t.2 t.1
bare_by P ToFromLeast a t h = h _ _ _ t.1 t.0 t.2
bare_by P ToLeastFrom a t h = h _ _ _ t.1 t.2 t.0
bare_by P LeastFromTo a t h = h _ _ _ t.2 t.0 t.1
bare_by P LeastToFrom a t h = h _ _ _ t.2 t.1 t.0

three_line : (x y z : ℕ) → line_of x y z ≡ three x y z ++ 10 ∷ []
unfolding three
three_line x y z = simp append_assoc

-- two numbers with a space between them
joined : (bs cs : List ℕ) → Without 10 bs → Without 10 cs → Without 10 (bs ++ 32 ∷ cs)
joined bs cs v w = All-append (λ b. b ≢ 10) bs (32 ∷ cs) v (All-cons (λ b. b ≢ 10) 32 cs (λ e. omega arith) w)

three_without : (x y z : ℕ) → x ≤ far → y ≤ far → z ≤ far → Without 10 (three x y z)
unfolding three
three_without x y z hx hy hz =
    joined (decimal x) _ (decimal_without 10 x (omega arith) hx) (joined (decimal y) _ (decimal_without 10 y (omega arith) hy) (decimal_without 10 z (omega arith) hz))

three_some : (x y z : ℕ) → x ≤ far → 0 < length (three x y z)
unfolding three
three_some x y z hx = rw length-append (omega (arith, decimal_nonempty x (omega arith)))

record Line (order : Columns) (bs : List ℕ) (a : Arc) (typed : List ℕ) : Type 0 where
  is : typed ≡ bs ++ 10 ∷ []
  solid : Without 10 bs
  some : 0 < length bs
  reads : row_of order bs ≡ Ok a

bare_line : (order : Columns) (a : Arc) → Typable a → Line order (bare order a) a (typed_arc order a)
bare_line order a t =
    bare_by (Line order) order a t (λ x y z hx hy hz. record { is = three_line x y z; solid = three_without x y z hx hy hz; some = three_some x y z hx; reads = three_row order x y z hx hy hz })

filled_more : (line : List ℕ) (lines : List (List ℕ)) → 0 < length line → filled (line ∷ lines) ≡ line ∷ filled lines
filled_more [] lines h = absurd (omega arith)
filled_more (b ∷ bs) lines h = refl

stopped : (after : List ℕ) → Stops after → filled (lines_of after) ≡ []
stopped [] s = refl
stopped (b ∷ after) s = rw s refl

rows_lines : (order : Columns) (arcs : List Arc) (after : List ℕ) → Stops after → All Typable arcs → filled (lines_of (flat_map (typed_arc order) arcs ++ after)) ≡ map (bare order) arcs
rows_lines order [] after s t = stopped after s
rows_lines order (a ∷ arcs) after s t =
    let line = bare_line order a (All-head Typable a arcs t) in
    let text : (typed_arc order a ++ flat_map (typed_arc order) arcs) ++ after ≡ bare order a ++ 10 ∷ (flat_map (typed_arc order) arcs ++ after) = rw line.is (simp append_assoc) in
    ap (λ bs. filled (lines_of bs)) text
    ∙ ap filled (line_back (bare order a) _ line.solid)
    ∙ filled_more _ _ line.some
    ∙ ap (λ r. bare order a ∷ r) (rows_lines order arcs after s (All-tail Typable a arcs t))

rows_back : (order : Columns) (k : ℕ) (arcs : List Arc) → All Typable arcs → rows_of order k (map (bare order) arcs) ≡ Ok arcs
rows_back order k [] t = refl
rows_back order k (a ∷ arcs) t =
    ap (λ r. in_line k r (λ arc. and_these arc (rows_of order (k + 1) (map (bare order) arcs)))) (bare_line order a (All-head Typable a arcs t)).reads
    ∙ ap (and_these a) (rows_back order (k + 1) arcs (All-tail Typable a arcs t))

rows_span : (order : Columns) (arcs : List Arc) → All Typable arcs → span (map (bare order) arcs) ≡ length (flat_map (typed_arc order) arcs)
rows_span order [] t = refl
rows_span order (a ∷ arcs) t =
    omega (arith, rows_span order arcs (All-tail Typable a arcs t), span_more, length-append (typed_arc order a) (flat_map (typed_arc order) arcs), ap length (bare_line order a (All-head Typable a arcs t)).is, length-append (bare order a) (10 ∷ []))

names_solid : (order : Columns) → Without 10 (name_line order) × (0 < length (name_line order))
names_solid FromToLeast = (without_by_test 10 (name_line FromToLeast) refl, omega arith)
names_solid FromLeastTo = (without_by_test 10 (name_line FromLeastTo) refl, omega arith)
names_solid ToFromLeast = (without_by_test 10 (name_line ToFromLeast) refl, omega arith)
names_solid ToLeastFrom = (without_by_test 10 (name_line ToLeastFrom) refl, omega arith)
names_solid LeastFromTo = (without_by_test 10 (name_line LeastFromTo) refl, omega arith)
names_solid LeastToFrom = (without_by_test 10 (name_line LeastToFrom) refl, omega arith)

module _ (order : Columns) (arcs : List Arc) (after : List ℕ) (s : Stops after) (t : All Typable arcs) where
  typed_lines : sheet_lines (typed_sheet order arcs ++ after) ≡ name_line order ∷ map (bare order) arcs
  typed_lines =
      let solid = names_solid order in
      ap (λ bs. filled (lines_of bs)) (append_assoc (name_line order) (10 ∷ flat_map (typed_arc order) arcs) after)
      ∙ ap filled (line_back (name_line order) _ solid.0)
      ∙ filled_more _ _ solid.1
      ∙ ap (λ r. name_line order ∷ r) (rows_lines order arcs after s t)

  pub typed_arcs : arcs_of (sheet_lines (typed_sheet order arcs ++ after)) ≡ Ok arcs
  typed_arcs = ap arcs_of typed_lines ∙ ap (λ o. arcs_under o (map (bare order) arcs)) (names_back order) ∙ rows_back order 2 arcs t

  pub typed_end : end_of (typed_sheet order arcs ++ after) ≡ length (typed_sheet order arcs ++ take 1 after)
  typed_end =
      let sheet = typed_sheet order arcs in
      let long : span (sheet_lines (sheet ++ after)) ≡ length sheet = ap span typed_lines ∙ omega (arith, rows_span order arcs t, span_more, length-append (name_line order) (10 ∷ flat_map (typed_arc order) arcs)) in
      omega (arith, length-append sheet after, length-append sheet (take 1 after), length-take 1 after)

  pub typed_count : length (sheet_lines (typed_sheet order arcs ++ after)) - 1 ≡ length arcs
  typed_count = omega (arith, ap length typed_lines, length-map arcs (bare order))

-- what `read` rests on
pub ruleset reading = (nat_tests, filled_whole, arcs_count, sheet_span, typed_arcs, typed_count, typed_end)
