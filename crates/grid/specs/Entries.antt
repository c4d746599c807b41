-- Which arcs enter a cell, in rising number. Assumes nothing.
use Rattle.std.specs.Prelude.{ℕ, ◌+◌, ◌*◌, ◌%◌, List, [], ◌∷◌, Some, None, Option}
use Rattle.std.specs.List.{filter_map}
use Rattle.grid.specs.Compass.{number, neighbour}
use Rattle.grid.specs.declared.compass.Direction.TheVariants.{Up, UpRight, Right, DownRight, Down, DownLeft, Left, UpLeft}
use Rattle.grid.specs.declared.entries.Entry.{Entry}
use Rattle.grid.specs.declared.entries.Entry.TheVariants.{Back, Own}

-- what can enter a cell: from the neighbours before it, from itself, from the neighbours after it
abbrev pub entries : List Entry
entries =
    Back UpLeft ∷ Back Up ∷ Back UpRight ∷ Back Left ∷
    Own Up ∷ Own UpRight ∷ Own Right ∷ Own DownRight ∷ Own Down ∷ Own DownLeft ∷ Own Left ∷ Own UpLeft ∷
    Back Right ∷ Back DownLeft ∷ Back Down ∷ Back DownRight ∷ []

-- the number of an entry's direction, as the cell sees it
abbrev pub towards : Entry → ℕ
towards (Back d) = number d
towards (Own d) = number d

-- the arc of an entry of the cell at p: a neighbour's where there is one, its own where there is none
abbrev pub arc_of : ℕ → Entry → Option ℕ → Option ℕ
arc_of p (Back d) (Some s) = Some (8 * s + (number d + 4) % 8)
arc_of p (Back d) None = None
arc_of p (Own d) (Some s) = None
arc_of p (Own d) None = Some (8 * p + number d)

abbrev pub entering : ℕ → ℕ → ℕ → Entry → Option ℕ
entering rows columns p e = arc_of p e (neighbour rows columns p (towards e))

-- the arcs that enter the cell at p
abbrev pub arcs_into_cell : ℕ → ℕ → ℕ → List ℕ
arcs_into_cell rows columns p = filter_map (entering rows columns p) entries
