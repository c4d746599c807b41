-- The eight arcs that enter a cell: the table of entries offers them in rising number, and no others enter.
use Rattle.std.proofs.Common.{◌≡◌, ℕ, zero, suc, ◌+◌, ◌*◌, ◌/◌, ◌%◌, ◌<◌, ◌≤◌, Bool, true, ◌&&◌, eqb, ltb, List, [], length, ℤ, pos, negsuc, Some, None, Option, unwrap_or, sym, refl, ap, ◌∙◌, subst, ap₂, inl, inr, mul-le-mul_right, mul_comm, add-mul, div-add-mod', arith}
use Rattle.std.proofs.lemmas.Nat.{mul-add-lt}
use Rattle.std.proofs.lemmas.Bool.{eq-eqb, eqb-true, ltb-true, and_parts, cases_order, cases_lt, lt-ltb, le-ltb, cond-true, cond-false}
use Rattle.std.specs.List.{cons_option, slice_index_or}
use Rattle.std.specs.Option.{option_len}
use Rattle.ground.proofs.ArcsAt.{arcs_at-beyond}
use Rattle.ground.proofs.Offered.{Offers, arcs_at-offered}
use Rattle.ground.specs.Questions.{arcs_at, arcs_from, arcs_into}
use Rattle.grid.proofs.Leaving.{leaving_count}
use Rattle.grid.specs.Compass.{number, step_of, neighbour}
use Rattle.grid.specs.Entries.{entries, arc_of, entering, arcs_into_cell}
use Rattle.grid.specs.GridLaws.{Moved, by_direction, row_of, column_of, neighbour_is, neighbour_to, beside_row, beside_column, grid_lawful}
use Rattle.grid.specs.Grids.{gridded}
use Rattle.grid.specs.declared.compass.Direction.{Direction}
use Rattle.grid.specs.declared.compass.Direction.TheVariants.{Up, UpRight, Right, DownRight, Down, DownLeft, Left, UpLeft}
use Rattle.grid.specs.declared.entries.Entry.{Entry}
use Rattle.grid.specs.declared.entries.Entry.TheVariants.{Back, Own}
use Rattle.grid.specs.declared.grid.Grid.{Grid}

-- a step by how much it is above -1
abbrev up : ℤ → ℕ
up (pos n) = n + 1
up (negsuc n) = 0

-- what the directions have in common
record Steady (d : ℕ) : Type 0 where
  row_up : (at x : ℕ) → Moved at x (step_of d).rows → x + 1 ≡ at + up (step_of d).rows
  column_up : (at x : ℕ) → Moved at x (step_of d).columns → x + 1 ≡ at + up (step_of d).columns
  column_small : up (step_of d).columns ≤ 2
  row_back : (at x : ℕ) → Moved at x (step_of d).rows → Moved x at (step_of ((d + 4) % 8)).rows
  column_back : (at x : ℕ) → Moved at x (step_of d).columns → Moved x at (step_of ((d + 4) % 8)).columns

steady : (d : ℕ) → d < 8 → Steady d
steady =
    by_direction Steady (omega arith) (omega arith) (omega arith) (omega arith) (omega arith) (omega arith) (omega arith) (omega arith)

-- where an entry's arc starts, by how much the row and the column there are above those before the cell; and its direction
abbrev row_rise : Entry → ℕ
row_rise (Back d) = up (step_of (number d)).rows
row_rise (Own d) = 1

abbrev column_rise : Entry → ℕ
column_rise (Back d) = up (step_of (number d)).columns
column_rise (Own d) = 1

abbrev leaves : Entry → ℕ
leaves (Back d) = (number d + 4) % 8
leaves (Own d) = number d

-- the order of the arcs of two entries
abbrev rank : Entry → ℕ
rank e = 8 * (3 * row_rise e + column_rise e) + leaves e

longer : (v : Option ℕ) (xs : List ℕ) → length (cons_option v xs) ≡ option_len v + length xs
longer (Some x) xs = omega arith
longer None xs = omega arith

-- a test that each number below n passes
abbrev all : (ℕ → Bool) → ℕ → Bool
all f zero = true
all f (suc n) = f n && all f n

all_at : (f : ℕ → Bool) (n i : ℕ) → all f n ≡ true → i < n → f i ≡ true
all_at f zero i e l = absurd (omega arith)
all_at f (suc n) i e l =
    let both = and_parts (f n) (all f n) e in
    elim (cases_order i n) [ inl e ↦ ap f e ∙ both.0 | inr o ↦ all_at f n i both.1 (elim o [ inl h ↦ h | inr h ↦ absurd (omega arith) ]) ]

abbrev entry_at : ℕ → Entry
entry_at i = slice_index_or entries i (Back Up)

ranked : (i k : ℕ) → i < k → k < 16 → rank (entry_at i) < rank (entry_at k)
ranked i k l h = ltb-true (rank (entry_at i)) (rank (entry_at k)) (all_at (λ i. ltb (rank (entry_at i)) (rank (entry_at k))) k i (all_at (λ k. all (λ i. ltb (rank (entry_at i)) (rank (entry_at k))) k) 16 k refl h) l)

pub number_below : (d : Direction) → number d < 8
number_below Up = omega arith
number_below UpRight = omega arith
number_below Right = omega arith
number_below DownRight = omega arith
number_below Down = omega arith
number_below DownLeft = omega arith
number_below Left = omega arith
number_below UpLeft = omega arith

module _ (rows columns p : ℕ) (some : 1 ≤ columns) (here : p < rows * columns) where
  -- x is the arc of the entry e
  record Source (e : Entry) (x : ℕ) : Type 0 where
    row : ℕ
    column : ℕ
    row_in : row < rows
    column_in : column < columns
    arc : x ≡ 8 * (row * columns + column) + leaves e
    row_is : row + 1 ≡ p / columns + row_rise e
    column_is : column + 1 ≡ p % columns + column_rise e
    column_small : column_rise e ≤ 2
    leaves_small : leaves e < 8

  -- the cases of an entry that has an arc
  by_entry : (P : Entry → Type 0) (e : Entry) (x : ℕ) → ((d : Direction) (s : ℕ) → neighbour rows columns p (number d) ≡ Some s → x ≡ 8 * s + (number d + 4) % 8 → P (Back d)) → ((d : Direction) → neighbour rows columns p (number d) ≡ None → x ≡ 8 * p + number d → P (Own d)) → entering rows columns p e ≡ Some x → P e
  by_entry P (Back d) x near self = at (neighbour rows columns p (number d)) refl
    where
      at : (v : Option ℕ) → neighbour rows columns p (number d) ≡ v → arc_of p (Back d) v ≡ Some x → P (Back d)
      at (Some s) v g = near d s v cc
      at None v g = cc
  by_entry P (Own d) x near self = at (neighbour rows columns p (number d)) refl
    where
      at : (v : Option ℕ) → neighbour rows columns p (number d) ≡ v → arc_of p (Own d) v ≡ Some x → P (Own d)
      at (Some s) v g = cc
      at None v g = self d v cc

  source : (e : Entry) (x : ℕ) → entering rows columns p e ≡ Some x → Source e x
  source e x = by_entry (λ e. Source e x) e x near self
    where
      near : (d : Direction) (s : ℕ) → neighbour rows columns p (number d) ≡ Some s → x ≡ 8 * s + (number d + 4) % 8 → Source (Back d) x
      near d s n a =
          let b = neighbour_is rows columns some p (number d) s here n in
          let k = steady (number d) (number_below d) in
          record { row = b.row; column = b.column; row_in = b.row_in; column_in = b.column_in; arc = a ∙ ap (λ z. 8 * z + (number d + 4) % 8) b.place; row_is = k.row_up (p / columns) b.row b.row_moved; column_is = k.column_up (p % columns) b.column b.column_moved; column_small = k.column_small; leaves_small = omega arith }

      self : (d : Direction) → neighbour rows columns p (number d) ≡ None → x ≡ 8 * p + number d → Source (Own d) x
      self d n a = record { row = p / columns; column = p % columns; row_in = row_of rows columns some p here; column_in = column_of rows columns some p; arc = a ∙ ap (λ z. 8 * z + number d) (sym (div-add-mod' p columns)); row_is = refl; column_is = refl; column_small = omega arith; leaves_small = number_below d }

  in_order : (e f : Entry) (x y : ℕ) → Source e x → Source f y → rank e < rank f → x < y
  in_order e f x y s t r = elim (cases_order s.row t.row) [
    | inl q ↦ (let m : s.row * columns ≡ t.row * columns = ap (λ z. z * columns) q in omega (arith, s.arc, t.arc, s.row_is, t.row_is, s.column_is, t.column_is, s.column_small, t.column_small, s.leaves_small, t.leaves_small))
    | inr o ↦ elim o [
      | inl h ↦ (let m : suc s.row * columns ≤ t.row * columns = mul-le-mul_right columns h in omega (arith, s.arc, t.arc, s.column_in, s.leaves_small, add-mul s.row 1 columns, m))
      | inr h ↦ absurd (omega (arith, s.row_is, t.row_is, s.column_small, t.column_small, s.leaves_small, t.leaves_small))
    ]
  ]

  heads : ℕ → ℕ
  heads j = unwrap_or (neighbour rows columns (j / 8) (j % 8)) (j / 8)

  -- a cell is the neighbour of its neighbour, by the direction back
  back_again : (a d s : ℕ) → d < 8 → a < rows * columns → neighbour rows columns a d ≡ Some s → neighbour rows columns s ((d + 4) % 8) ≡ Some a
  back_again a d s l h n =
      let b = neighbour_is rows columns some a d s h n in
      let k = steady d l in
      let r = beside_row rows columns some a d s b in
      let c = beside_column rows columns some a d s b in
      neighbour_to rows columns some s ((d + 4) % 8) a (record {
        row = a / columns;
        column = a % columns;
        row_in = row_of rows columns some a h;
        column_in = column_of rows columns some a;
        place = sym (div-add-mod' a columns);
        row_moved = subst (λ (z : ℕ). Moved z (a / columns) (step_of ((d + 4) % 8)).rows) (sym r) (k.row_back (a / columns) b.row b.row_moved);
        column_moved = subst (λ (z : ℕ). Moved z (a % columns) (step_of ((d + 4) % 8)).columns) (sym c) (k.column_back (a % columns) b.column b.column_moved);
      })

  enters : (e : Entry) (x : ℕ) → entering rows columns p e ≡ Some x → heads x ≡ p
  unfolding heads
  enters e x = by_entry (λ _. heads x ≡ p) e x near self
    where
      of : (s d : ℕ) → x ≡ 8 * s + d → d < 8 → heads x ≡ unwrap_or (neighbour rows columns s d) s
      of s d a l = ap₂ (λ a b. unwrap_or (neighbour rows columns a b) a) (omega arith) (omega arith)

      near : (d : Direction) (s : ℕ) → neighbour rows columns p (number d) ≡ Some s → x ≡ 8 * s + (number d + 4) % 8 → heads x ≡ p
      near d s n a = of s ((number d + 4) % 8) a (omega arith) ∙ ap (λ v. unwrap_or v s) (back_again p (number d) s (number_below d) here n)

      self : (d : Direction) → neighbour rows columns p (number d) ≡ None → x ≡ 8 * p + number d → heads x ≡ p
      self d n a = of p (number d) a (number_below d) ∙ ap (λ v. unwrap_or v p) n

  -- the entry of an arc back from a neighbour, and of an own arc
  abbrev Entered : ℕ → Type 0
  Entered x = (i : ℕ) × (i < 16) × (entering rows columns p (entry_at i) ≡ Some x)

  back_entry : (d : ℕ) → d < 8 → (s : ℕ) → neighbour rows columns p ((d + 4) % 8) ≡ Some s → Entered (8 * s + d)
  back_entry =
      by_direction (λ d. (s : ℕ) → neighbour rows columns p ((d + 4) % 8) ≡ Some s → Entered (8 * s + d))
      (λ s n. (14, omega arith, ap (arc_of p (Back Down)) n)) (λ s n. (13, omega arith, ap (arc_of p (Back DownLeft)) n)) (λ s n. (3, omega arith, ap (arc_of p (Back Left)) n)) (λ s n. (0, omega arith, ap (arc_of p (Back UpLeft)) n))
      (λ s n. (1, omega arith, ap (arc_of p (Back Up)) n)) (λ s n. (2, omega arith, ap (arc_of p (Back UpRight)) n)) (λ s n. (12, omega arith, ap (arc_of p (Back Right)) n)) (λ s n. (15, omega arith, ap (arc_of p (Back DownRight)) n))

  own_entry : (d : ℕ) → d < 8 → neighbour rows columns p d ≡ None → Entered (8 * p + d)
  own_entry =
      by_direction (λ d. neighbour rows columns p d ≡ None → Entered (8 * p + d))
      (λ n. (4, omega arith, ap (arc_of p (Own Up)) n)) (λ n. (5, omega arith, ap (arc_of p (Own UpRight)) n)) (λ n. (6, omega arith, ap (arc_of p (Own Right)) n)) (λ n. (7, omega arith, ap (arc_of p (Own DownRight)) n))
      (λ n. (8, omega arith, ap (arc_of p (Own Down)) n)) (λ n. (9, omega arith, ap (arc_of p (Own DownLeft)) n)) (λ n. (10, omega arith, ap (arc_of p (Own Left)) n)) (λ n. (11, omega arith, ap (arc_of p (Own UpLeft)) n))

  entry_of : (s d : ℕ) → s < rows * columns → d < 8 → unwrap_or (neighbour rows columns s d) s ≡ p → Entered (8 * s + d)
  entry_of s d h l = at (neighbour rows columns s d) refl
    where
      at : (v : Option ℕ) → neighbour rows columns s d ≡ v → unwrap_or v s ≡ p → Entered (8 * s + d)
      at (Some t) n e = back_entry d l s (back_again s d p l h (n ∙ ap Some e))
      at None n e =
          let w = own_entry d l (ap (λ a. neighbour rows columns a d) (sym e) ∙ n) in
          (w.0, w.1, w.2 ∙ ap (λ a. Some (8 * a + d)) (sym e))

  abbrev offer : ℕ → Option ℕ
  offer i = entering rows columns p (entry_at i)

  entry_offers : Offers (λ j. eqb (heads j) p) offer 16 (8 * (rows * columns))
  unfolding heads
  entry_offers = record {
    rising = λ i k x y l m e f. in_order (entry_at i) (entry_at k) x y (source (entry_at i) x e) (source (entry_at k) y f) (ranked i k l m);
    within = λ i x l e. let s = source (entry_at i) x e in omega (arith, s.arc, s.leaves_small, mul-add-lt s.row columns s.column rows s.row_in s.column_in, mul_comm rows columns);
    passing = λ i x l e. eq-eqb (heads x) p (enters (entry_at i) x e);
    whole = λ j l t. let w = entry_of (j / 8) (j % 8) (omega arith) (omega arith) (eqb-true (heads j) p t) in (w.0, w.1, w.2 ∙ ap Some (omega arith));
  }

  pub entering_are : arcs_at (λ j. unwrap_or (neighbour rows columns (j / 8) (j % 8)) (j / 8)) (8 * (rows * columns)) p ≡ arcs_into_cell rows columns p
  unfolding heads
  entering_are = arcs_at-offered (λ j. unwrap_or (neighbour rows columns (j / 8) (j % 8)) (j / 8)) offer 16 (8 * (rows * columns)) p entry_offers

  -- of the two entries of a direction one has an arc
  one_of : (d : Direction) → option_len (entering rows columns p (Back d)) + option_len (entering rows columns p (Own d)) ≡ 1
  one_of d = at (neighbour rows columns p (number d))
    where
      at : (v : Option ℕ) → option_len (arc_of p (Back d) v) + option_len (arc_of p (Own d) v) ≡ 1
      at (Some s) = refl
      at None = refl

  pub entering_count : length (arcs_into_cell rows columns p) ≡ 8
  entering_count = omega (arith, longer, one_of Up, one_of UpRight, one_of Right, one_of DownRight, one_of Down, one_of DownLeft, one_of Left, one_of UpLeft)

-- the arcs that enter a place, as many as leave it
pub entering_at : (g : Grid) (p : ℕ) → p < g.rows * g.columns → arcs_into (gridded g.rows g.columns g.base) p ≡ arcs_into_cell g.rows g.columns p
entering_at g p h = entering_are g.rows g.columns p g.some_columns h

pub entering_beyond : (g : Grid) (p : ℕ) → g.rows * g.columns ≤ p → arcs_into (gridded g.rows g.columns g.base) p ≡ []
entering_beyond g p h =
    let m = gridded g.rows g.columns g.base in
    arcs_at-beyond m.head m.arcs m.places p (grid_lawful g).head_in h

pub as_many_enter : (g : Grid) (p : ℕ) → length (arcs_into (gridded g.rows g.columns g.base) p) ≡ length (arcs_from (gridded g.rows g.columns g.base) p)
as_many_enter g p = elim (cases_lt p (g.rows * g.columns)) [
  | inl h ↦ ap length (entering_at g p h) ∙ entering_count g.rows g.columns p g.some_columns h ∙ sym (leaving_count g p ∙ cond-true {A = ℕ} (ltb p (g.rows * g.columns)) 8 0 (lt-ltb p (g.rows * g.columns) h))
  | inr h ↦ ap length (entering_beyond g p h) ∙ sym (leaving_count g p ∙ cond-false {A = ℕ} (ltb p (g.rows * g.columns)) 8 0 (le-ltb p (g.rows * g.columns) h))
]
