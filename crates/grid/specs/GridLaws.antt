-- A grid is lawful. Assumes nothing.
use Rattle.std.specs.Prelude.{◌≡◌, ℕ, zero, suc, ◌+◌, ◌-◌, ◌*◌, ◌/◌, ◌%◌, ◌<◌, ◌≤◌, min, max, ℤ, pos, negsuc, Some, None, Option, nat_lt, unsigned_abs}
use Rattle.std.proofs.Common.{sym, ◌∙◌, ap₂, mul-zero, mul_comm, mul_assoc, mul-add, mul-le-mul, mul-le-mul_left, arith}
use Rattle.std.proofs.Math.Path.{refl, ap}
use Rattle.std.specs.Option.{unwrap_or}
use Rattle.std.proofs.lemmas.Nat.{div_below, mod_below, div-mul-add, mod-mul-add, mul-add-lt}
use Rattle.std.proofs.lemmas.Bool.{ltb-true, lt-ltb}
use Rattle.ground.specs.KnownLaws.{known_some, known_there}
use Rattle.ground.specs.Meanings.{Lawful}
use Rattle.grid.specs.Compass.{less, same, more, step_of, moved, place_at, beside, neighbour}
use Rattle.grid.specs.Grids.{gridded, estimated, apart}
use Rattle.grid.specs.declared.grid.Grid.{Grid}

-- what holds of 0 to 7 holds of every direction
pub by_direction : (P : ℕ → Type 0) → P 0 → P 1 → P 2 → P 3 → P 4 → P 5 → P 6 → P 7 → (d : ℕ) → d < 8 → P d
by_direction P a b c e f g h i zero l = a
by_direction P a b c e f g h i (suc zero) l = b
by_direction P a b c e f g h i (suc (suc zero)) l = c
by_direction P a b c e f g h i (suc (suc (suc zero))) l = e
by_direction P a b c e f g h i (suc (suc (suc (suc zero)))) l = f
by_direction P a b c e f g h i (suc (suc (suc (suc (suc zero))))) l = g
by_direction P a b c e f g h i (suc (suc (suc (suc (suc (suc zero)))))) l = h
by_direction P a b c e f g h i (suc (suc (suc (suc (suc (suc (suc zero))))))) l = i
by_direction P a b c e f g h i (suc (suc (suc (suc (suc (suc (suc (suc d)))))))) l = absurd (omega arith)

-- the estimate with the base taken out
pub estimated_by : (base x y : ℕ) → estimated base x y ≡ base * (7 * min x y + 5 * (max x y - min x y))
estimated_by base x y =
    let e : (k m : ℕ) → k * base * m ≡ base * (k * m) = λ k m. ap (λ z. z * m) (mul_comm k base) ∙ mul_assoc base k m in
    ap (λ z. z + 5 * base * (max x y - min x y)) (e 7 (min x y))
    ∙ ap (λ z. base * (7 * min x y) + z) (e 5 (max x y - min x y))
    ∙ sym (mul-add base (7 * min x y) (5 * (max x y - min x y)))

-- x is what a step leads to
abbrev pub Moved : ℕ → ℕ → ℤ → Type 0
Moved at x (pos by) = x ≡ at + by
Moved at x (negsuc by) = x + suc by ≡ at

pub moved_is : (limit at : ℕ) (z : ℤ) (x : ℕ) → at < limit → moved limit at z ≡ Some x → (x < limit) × Moved at x z
moved_is limit at (pos by) x l e =
    let k = known_some (nat_lt (at + by) limit) (at + by) x e in
    (omega (arith, ltb-true (at + by) limit k.0), k.1)
moved_is limit at (negsuc by) x l e =
    let k = known_some (nat_lt by at) (at - suc by) x e in
    let h : by < at = ltb-true by at k.0 in
    (omega arith, omega arith)

pub moved_to : (limit at : ℕ) (z : ℤ) (x : ℕ) → x < limit → Moved at x z → moved limit at z ≡ Some x
moved_to limit at (pos by) x l e = known_there (nat_lt (at + by) limit) (at + by) (lt-ltb (at + by) limit (omega arith)) ∙ ap Some (sym e)
moved_to limit at (negsuc by) x l e =
    let s : at - suc by ≡ x = omega arith in
    known_there (nat_lt by at) (at - suc by) (lt-ltb by at (omega arith)) ∙ ap Some s

-- s is the place beside p in direction d: at row r and column c
pub record Beside (rows columns p d s : ℕ) : Type 0 where
  pub row : ℕ
  pub column : ℕ
  pub row_in : row < rows
  pub column_in : column < columns
  pub place : s ≡ row * columns + column
  pub row_moved : Moved (p / columns) row (step_of d).rows
  pub column_moved : Moved (p % columns) column (step_of d).columns

module _ (rows columns : ℕ) (some : 1 ≤ columns) where
  pub row_of : (p : ℕ) → p < rows * columns → p / columns < rows
  row_of p h = div_below p columns rows some h

  pub column_of : (p : ℕ) → p % columns < columns
  column_of p = mod_below p columns some

  pub neighbour_is : (p d s : ℕ) → p < rows * columns → neighbour rows columns p d ≡ Some s → Beside rows columns p d s
  unfolding beside
  neighbour_is p d s h e = at (moved rows (p / columns) (step_of d).rows) (moved columns (p % columns) (step_of d).columns) refl refl e
    where
      at : (r c : Option ℕ) → moved rows (p / columns) (step_of d).rows ≡ r → moved columns (p % columns) (step_of d).columns ≡ c → place_at columns r c ≡ Some s → Beside rows columns p d s
      at None c e f g = cc
      at (Some r) None e f g = cc
      at (Some r) (Some c) e f g =
          let v = moved_is rows (p / columns) (step_of d).rows r (row_of p h) e in
          let w = moved_is columns (p % columns) (step_of d).columns c (column_of p) f in
          record { row = r; column = c; row_in = v.0; column_in = w.0; place = cc; row_moved = v.1; column_moved = w.1 }

  pub neighbour_to : (p d s : ℕ) → Beside rows columns p d s → neighbour rows columns p d ≡ Some s
  unfolding beside
  neighbour_to p d s b =
      ap (λ r. place_at columns r (moved columns (p % columns) (step_of d).columns)) (moved_to rows (p / columns) (step_of d).rows b.row b.row_in b.row_moved)
      ∙ ap (place_at columns (Some b.row)) (moved_to columns (p % columns) (step_of d).columns b.column b.column_in b.column_moved)
      ∙ ap Some (sym b.place)

  pub beside_row : (p d s : ℕ) (b : Beside rows columns p d s) → s / columns ≡ b.row
  beside_row p d s b = ap (λ z. z / columns) b.place ∙ div-mul-add b.row columns b.column b.column_in

  pub beside_column : (p d s : ℕ) (b : Beside rows columns p d s) → s % columns ≡ b.column
  beside_column p d s b = ap (λ z. z % columns) b.place ∙ mod-mul-add b.row columns b.column b.column_in

  pub beside_in : (p d s : ℕ) (b : Beside rows columns p d s) → s < rows * columns
  beside_in p d s b = omega (arith, b.place, mul-add-lt b.row columns b.column rows b.row_in b.column_in, mul_comm rows columns)

-- the estimate for a base of 1
abbrev span : ℕ → ℕ → ℕ
span x y = 7 * min x y + 5 * (max x y - min x y)

-- one step brings any cell nearer, or farther, by no more than the step's factor
abbrev Stretches : ℕ → Type 0
Stretches d = (u v r c r' c' : ℕ) → Moved r r' (step_of d).rows → Moved c c' (step_of d).columns → span (apart u r') (apart v c') ≤ span (apart u r) (apart v c) + (step_of d).factor

near : (u r r' k : ℕ) → r' ≤ r + k → r ≤ r' + k → apart u r' ≤ apart u r + k
near u r r' k a b = omega arith

along_rows : (x y x' y' : ℕ) → x' ≤ x + 1 → y' ≤ y + 0 → span x' y' ≤ span x y + 5
along_rows x y x' y' a b = omega arith

along_columns : (x y x' y' : ℕ) → x' ≤ x + 0 → y' ≤ y + 1 → span x' y' ≤ span x y + 5
along_columns x y x' y' a b = omega arith

slanting : (x y x' y' : ℕ) → x' ≤ x + 1 → y' ≤ y + 1 → span x' y' ≤ span x y + 7
slanting x y x' y' a b = omega arith

moved_near : (at x : ℕ) (z : ℤ) (k : ℕ) → unsigned_abs z ≤ k → Moved at x z → (x ≤ at + k) × (at ≤ x + k)
moved_near at x (pos by) k l m = (omega arith, omega arith)
moved_near at x (negsuc by) k l m = (omega arith, omega arith)

goes : (k h f : ℕ) → ((x y x' y' : ℕ) → x' ≤ x + k → y' ≤ y + h → span x' y' ≤ span x y + f) → (z w : ℤ) → unsigned_abs z ≤ k → unsigned_abs w ≤ h → (u v r c r' c' : ℕ) → Moved r r' z → Moved c c' w → span (apart u r') (apart v c') ≤ span (apart u r) (apart v c) + f
goes k h f step z w a b u v r c r' c' m n =
    let i = moved_near r r' z k a m in
    let j = moved_near c c' w h b n in
    step (apart u r) (apart v c) (apart u r') (apart v c') (near u r r' k i.0 i.1) (near v c c' h j.0 j.1)

stretches : (d : ℕ) → d < 8 → Stretches d
stretches =
    by_direction Stretches (goes 1 0 5 along_rows less same (omega arith) (omega arith)) (goes 1 1 7 slanting less more (omega arith) (omega arith)) (goes 0 1 5 along_columns same more (omega arith) (omega arith)) (goes 1 1 7 slanting more more (omega arith) (omega arith))
    (goes 1 0 5 along_rows more same (omega arith) (omega arith)) (goes 1 1 7 slanting more less (omega arith) (omega arith)) (goes 0 1 5 along_columns same less (omega arith) (omega arith)) (goes 1 1 7 slanting less less (omega arith) (omega arith))

-- five or seven times the base
factors : (d : ℕ) → d < 8 → (5 ≤ (step_of d).factor) × ((step_of d).factor ≤ 7)
factors =
    by_direction (λ d. (5 ≤ (step_of d).factor) × ((step_of d).factor ≤ 7)) (omega arith) (omega arith) (omega arith) (omega arith) (omega arith) (omega arith) (omega arith) (omega arith)

module _ (rows columns base : ℕ) (some : 1 ≤ columns) where
  -- an arc that goes somewhere or back to its own cell
  head_of : (P : ℕ → Type 0) (p d : ℕ) → p < rows * columns → P p → ((s : ℕ) → Beside rows columns p d s → P s) → P (unwrap_or (neighbour rows columns p d) p)
  head_of P p d h own other = at (neighbour rows columns p d) refl
    where
      at : (v : Option ℕ) → neighbour rows columns p d ≡ v → P (unwrap_or v p)
      at None e = own
      at (Some s) e = other s (neighbour_is rows columns some p d s h e)

  grid_step : (a j : ℕ) → j < 8 * (rows * columns) → (gridded rows columns base).estimate a ((gridded rows columns base).head j) ≤ (gridded rows columns base).estimate a (j / 8) + (step_of (j % 8)).factor * base
  grid_step a j h =
      head_of (λ s. est s ≤ est (j / 8) + (step_of (j % 8)).factor * base) (j / 8) (j % 8) (omega arith) (omega arith) away
    where
      est : ℕ → ℕ
      est s = (gridded rows columns base).estimate a s

      away : (s : ℕ) → Beside rows columns (j / 8) (j % 8) s → est s ≤ est (j / 8) + (step_of (j % 8)).factor * base
      away s b =
          let u = a / columns in
          let v = a % columns in
          let r = j / 8 / columns in
          let c = j / 8 % columns in
          let x : span (apart u b.row) (apart v b.column) ≤ span (apart u r) (apart v c) + (step_of (j % 8)).factor = stretches (j % 8) (omega arith) u v r c b.row b.column b.row_moved b.column_moved in
          let e : est s ≡ base * span (apart u b.row) (apart v b.column) = ap₂ (λ y z. estimated base (apart u y) (apart v z)) (beside_row rows columns some (j / 8) (j % 8) s b) (beside_column rows columns some (j / 8) (j % 8) s b) ∙ estimated_by base (apart u b.row) (apart v b.column) in
          let f : est (j / 8) ≡ base * span (apart u r) (apart v c) = estimated_by base (apart u r) (apart v c) in
          omega (arith, mul-le-mul_left base x, mul-add base (span (apart u r) (apart v c)) (step_of (j % 8)).factor, mul_comm (step_of (j % 8)).factor base)

close : (x y limit : ℕ) → x < limit → y < limit → limit ≤ 128 → apart x y ≤ 127
close x y limit a b l = omega arith

small_span : (x y : ℕ) → x ≤ 127 → y ≤ 127 → span x y ≤ 889
small_span x y a b = omega arith

-- a grid's estimate of a place from itself
span_self : (base x y : ℕ) → estimated base (apart x x) (apart y y) ≡ 0
span_self base x y =
    let zero_apart : (z : ℕ) → apart z z ≡ 0 = λ z. omega arith in
    ap₂ (estimated base) (zero_apart x) (zero_apart y) ∙ estimated_by base 0 0 ∙ mul-zero base

module _ (rows columns base : ℕ) (some_rows : 1 ≤ rows) (few_rows : rows ≤ 128) (some_columns : 1 ≤ columns) (few_columns : columns ≤ 128) (low_base : 1 ≤ base) (high_base : base ≤ 1000) where
  pub few : rows * columns ≤ 16384
  few = mul-le-mul {n₂ = 128} {m₂ = 128} few_rows few_columns

  grid_high : (a s : ℕ) → a < rows * columns → s < rows * columns → (gridded rows columns base).estimate a s ≤ 163830000
  grid_high a s h k =
      let x : apart (a / columns) (s / columns) ≤ 127 = close (a / columns) (s / columns) rows (row_of rows columns some_columns a h) (row_of rows columns some_columns s k) few_rows in
      let y : apart (a % columns) (s % columns) ≤ 127 = close (a % columns) (s % columns) columns (column_of rows columns some_columns a) (column_of rows columns some_columns s) few_columns in
      let z : base * span (apart (a / columns) (s / columns)) (apart (a % columns) (s % columns)) ≤ 1000 * 889 = mul-le-mul high_base (small_span (apart (a / columns) (s / columns)) (apart (a % columns) (s % columns)) x y) in
      omega (arith, estimated_by base (apart (a / columns) (s / columns)) (apart (a % columns) (s % columns)))

  least_is : (d : ℕ) → d < 8 → (1 ≤ (step_of d).factor * base) × ((step_of d).factor * base ≤ 10000)
  least_is d h =
      let f = factors d h in
      let low : 5 * 1 ≤ (step_of d).factor * base = mul-le-mul f.0 low_base in
      let high : (step_of d).factor * base ≤ 7 * 1000 = mul-le-mul f.1 high_base in
      (omega arith, omega arith)

  pub gridded_lawful : Lawful (gridded rows columns base)
  gridded_lawful = record {
    few_places = few;
    few_arcs = omega (arith, few);
    tail_in = λ j h. omega arith;
    head_in = λ j h. head_of rows columns base some_columns (λ s. s < rows * columns) (j / 8) (j % 8) (omega arith) (omega arith) (λ s b. beside_in rows columns some_columns (j / 8) (j % 8) s b);
    least_low = λ j h. (least_is (j % 8) (omega arith)).0;
    least_high = λ j h. (least_is (j % 8) (omega arith)).1;
    estimate_high = grid_high;
    estimate_self = λ a h. span_self base (a / columns) (a % columns);
    estimate_step = λ a j h k. grid_step rows columns base some_columns a j k;
  }

pub grid_lawful : (g : Grid) → Lawful (gridded g.rows g.columns g.base)
grid_lawful g = gridded_lawful g.rows g.columns g.base g.some_rows g.few_rows g.some_columns g.few_columns g.low_base g.high_base
