-- What a grid means. Assumes nothing.
use Rattle.std.specs.Prelude.{ℕ, ◌+◌, ◌-◌, ◌*◌, ◌/◌, ◌%◌, min, max}
use Rattle.std.specs.Option.{unwrap_or}
use Rattle.ground.specs.Meanings.{Meaning}
use Rattle.grid.specs.Compass.{neighbour, step_of}

-- how far two rows, or two columns, are apart
abbrev pub apart : ℕ → ℕ → ℕ
apart x y = (x - y) + (y - x)

-- the estimate over the differences of rows and of columns: slanting as far as both go, straight for the rest
abbrev pub estimated : ℕ → ℕ → ℕ → ℕ
estimated base x y = 7 * base * min x y + 5 * base * (max x y - min x y)

-- Place row × columns + column; arc 8 × place + direction, which leads back to its own cell where it would leave the grid.
abbrev pub gridded : ℕ → ℕ → ℕ → Meaning
gridded rows columns base = record {
  places = rows * columns;
  arcs = 8 * (rows * columns);
  tail = λ j. j / 8;
  head = λ j. unwrap_or (neighbour rows columns (j / 8) (j % 8)) (j / 8);
  least = λ j. (step_of (j % 8)).factor * base;
  estimate = λ a s. estimated base (apart (a / columns) (s / columns)) (apart (a % columns) (s % columns));
}
