-- The eight directions out of a cell. Assumes nothing.
use Rattle.std.specs.Prelude.{ℕ, suc, ◌+◌, ◌-◌, ◌*◌, ◌/◌, ◌%◌, Bool, ◌&&◌, List, [], ◌∷◌, ℤ, pos, negsuc, Some, None, Option, nat_lt, slice_index_or}
use Rattle.ground.specs.Questions.{known}
use Rattle.grid.specs.declared.compass.Step.{Step}
use Rattle.grid.specs.declared.compass.Direction.{Direction}
use Rattle.grid.specs.declared.compass.Direction.TheVariants.{Up, UpRight, Right, DownRight, Down, DownLeft, Left, UpLeft}

-- the directions are numbered from 0 to 7
abbrev pub number : Direction → ℕ
number Up = 0
number UpRight = 1
number Right = 2
number DownRight = 3
number Down = 4
number DownLeft = 5
number Left = 6
number UpLeft = 7

-- a row or a column less, the same, or one more
abbrev pub less : ℤ
less = negsuc 0

abbrev pub same : ℤ
same = pos 0

abbrev pub more : ℤ
more = pos 1

-- how the row changes, how the column changes, and how many times the base an arc costs at least
abbrev pub step : ℤ → ℤ → ℕ → Step
step rows columns factor = record { rows = rows; columns = columns; factor = factor }

-- the steps of the directions 0 to 7
abbrev pub compass : List Step
compass =
    step less same 5 ∷ step less more 7 ∷ step same more 5 ∷ step more more 7 ∷
    step more same 5 ∷ step more less 7 ∷ step same less 5 ∷ step less less 7 ∷ []

abbrev pub step_of : ℕ → Step
step_of d = slice_index_or compass d (step same same 0)

-- the row or the column that a step leads to, if it is one of so many
abbrev pub moved : ℕ → ℕ → ℤ → Option ℕ
moved limit at (pos by) = known (nat_lt (at + by) limit) (at + by)
moved limit at (negsuc by) = known (nat_lt by at) (at - suc by)

-- the place at a row and a column
abbrev pub place_at : ℕ → Option ℕ → Option ℕ → Option ℕ
place_at columns None c = None
place_at columns (Some r) None = None
place_at columns (Some r) (Some c) = Some (r * columns + c)

-- the place beside the cell at row r and column c in direction d, unless that is off the grid
unfoldable pub beside : ℕ → ℕ → ℕ → ℕ → ℕ → Option ℕ
beside rows columns r c d = place_at columns (moved rows r (step_of d).rows) (moved columns c (step_of d).columns)

-- the same of the cell at place p
abbrev pub neighbour : ℕ → ℕ → ℕ → ℕ → Option ℕ
neighbour rows columns p d = beside rows columns (p / columns) (p % columns) d

-- a number that is neither the first nor the last below a limit
abbrev pub amid : ℕ → ℕ → Bool
amid limit n = nat_lt 0 n && nat_lt (n + 1) limit

-- whether the cell at place p lies at no border
abbrev pub is_inner : ℕ → ℕ → ℕ → Bool
is_inner rows columns p = amid rows (p / columns) && amid columns (p % columns)
