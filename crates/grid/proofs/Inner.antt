-- A cell at no border is entered from each of its neighbours, and by none of its own arcs.
use Rattle.std.proofs.Common.{◌≡◌, ℕ, ◌+◌, ◌*◌, ◌/◌, ◌%◌, ◌<◌, ◌≤◌, true, List, [], ◌∷◌, ◌++◌, map, ℤ, pos, negsuc, Some, None, sym, refl, ap, ◌∙◌, ap₂, arith}
use Rattle.std.proofs.lemmas.Bool.{and_parts, ltb-true, lt-ltb}
use Rattle.std.proofs.lemmas.List.Elements.{filter_map-append}
use Rattle.std.proofs.lemmas.Option.{slice_get-map}
use Rattle.std.specs.List.{slice_get, filter_map, cons_option}
use Rattle.std.specs.Option.{option_map}
use Rattle.std.specs.Prelude.{unsigned_abs}
use Rattle.ground.specs.KnownLaws.{known_there}
use Rattle.grid.proofs.Entering.{number_below}
use Rattle.grid.specs.Compass.{number, step_of, moved, place_at, beside, neighbour, amid, is_inner}
use Rattle.grid.specs.Entries.{arc_of, entering, arcs_into_cell}
use Rattle.grid.specs.GridLaws.{by_direction}
use Rattle.grid.specs.declared.compass.Direction.{Direction}
use Rattle.grid.specs.declared.compass.Direction.TheVariants.{Up, UpRight, Right, DownRight, Down, DownLeft, Left, UpLeft}
use Rattle.grid.specs.declared.entries.Entry.TheVariants.{Back, Own}

-- one step from amid leads somewhere
stays : (limit at : ℕ) (z : ℤ) → unsigned_abs z ≤ 1 → amid limit at ≡ true → (x : ℕ) × (moved limit at z ≡ Some x)
stays limit at z l e = let h = and_parts _ _ e in go z l (ltb-true _ _ h.0) (ltb-true _ _ h.1)
  where
    go : (z : ℤ) → unsigned_abs z ≤ 1 → 0 < at → at + 1 < limit → (x : ℕ) × (moved limit at z ≡ Some x)
    go (pos by) l a b = (_, known_there _ _ (lt-ltb (at + by) limit (omega arith)))
    go (negsuc by) l a b = (_, known_there _ _ (lt-ltb by at (omega arith)))

small_rows : (d : ℕ) → d < 8 → unsigned_abs (step_of d).rows ≤ 1
small_rows = by_direction (λ d. unsigned_abs (step_of d).rows ≤ 1) (omega arith) (omega arith) (omega arith) (omega arith) (omega arith) (omega arith) (omega arith) (omega arith)

small_columns : (d : ℕ) → d < 8 → unsigned_abs (step_of d).columns ≤ 1
small_columns = by_direction (λ d. unsigned_abs (step_of d).columns ≤ 1) (omega arith) (omega arith) (omega arith) (omega arith) (omega arith) (omega arith) (omega arith) (omega arith)

-- the neighbours in the order of the table: those before the cell, and those after it
abbrev before : List Direction
before = UpLeft ∷ Up ∷ UpRight ∷ Left ∷ []

abbrev after : List Direction
after = Right ∷ DownLeft ∷ Down ∷ DownRight ∷ []

abbrev pub neighbours : List Direction
neighbours = before ++ after

module _ (rows columns p : ℕ) (inner : is_inner rows columns p ≡ true) where
  there : (d : Direction) → (s : ℕ) × (neighbour rows columns p (number d) ≡ Some s)
  unfolding beside
  there d =
      let h = and_parts _ _ inner in
      let r = stays rows (p / columns) (step_of (number d)).rows (small_rows _ (number_below d)) h.0 in
      let c = stays columns (p % columns) (step_of (number d)).columns (small_columns _ (number_below d)) h.1 in
      (_, ap₂ (place_at columns) r.1 c.1)

  back : Direction → ℕ
  back d = 8 * (there d).0 + (number d + 4) % 8

  from_back : (d : Direction) → entering rows columns p (Back d) ≡ Some (back d)
  unfolding back
  from_back d = ap (arc_of p (Back d)) (there d).1

  backs : (ds : List Direction) → filter_map (entering rows columns p) (map Back ds) ≡ map back ds
  backs [] = refl
  backs (d ∷ ds) = ap₂ cons_option (from_back d) (backs ds)

  owns : (ds : List Direction) → filter_map (entering rows columns p) (map Own ds) ≡ []
  owns [] = refl
  owns (d ∷ ds) = ap₂ cons_option (ap (arc_of p (Own d)) (there d).1) (owns ds)

  -- in the order of the table
  inner_are : arcs_into_cell rows columns p ≡ map back (neighbours)
  inner_are =
      let f = entering rows columns p in
      let own = Up ∷ UpRight ∷ Right ∷ DownRight ∷ Down ∷ DownLeft ∷ Left ∷ UpLeft ∷ [] in
      filter_map-append f (map Back before) (map Own own ++ map Back after)
      ∙ ap₂ (λ xs ys. xs ++ ys) (backs before) (filter_map-append f (map Own own) (map Back after) ∙ ap₂ (λ xs ys. xs ++ ys) (owns own) (backs after))

  pub inner_get : (k : ℕ) (d : Direction) → slice_get (neighbours) k ≡ Some d → slice_get (arcs_into_cell rows columns p) k ≡ entering rows columns p (Back d)
  inner_get k d e = ap (λ xs. slice_get xs k) inner_are ∙ slice_get-map back (neighbours) k ∙ ap (option_map back) e ∙ sym (from_back d)

  pub inner_past : (k : ℕ) → slice_get (neighbours) k ≡ None → slice_get (arcs_into_cell rows columns p) k ≡ None
  inner_past k e = ap (λ xs. slice_get xs k) inner_are ∙ slice_get-map back (neighbours) k ∙ ap (option_map back) e
