-- The six orders of a sheet's columns. Assumes nothing.
use Rattle.std.specs.Prelude.{ℕ, List, [], ◌∷◌, codes, find, Option}
use Rattle.std.specs.Str.{bytes_eq}
use Rattle.terms.specs.declared.arc.Arc.{Arc}
use Rattle.sheet.specs.declared.columns.Columns.{Columns}
use Rattle.sheet.specs.declared.columns.Columns.TheVariants.{FromToLeast, FromLeastTo, ToFromLeast, ToLeastFrom, LeastFromTo, LeastToFrom}

-- the line of names that says an order
abbrev pub name_line : Columns → List ℕ
name_line FromToLeast = codes "from to least"
name_line FromLeastTo = codes "from least to"
name_line ToFromLeast = codes "to from least"
name_line ToLeastFrom = codes "to least from"
name_line LeastFromTo = codes "least from to"
name_line LeastToFrom = codes "least to from"

abbrev pub orders : List Columns
orders = FromToLeast ∷ FromLeastTo ∷ ToFromLeast ∷ ToLeastFrom ∷ LeastFromTo ∷ LeastToFrom ∷ []

-- the order that a line of names says, if it is one
unfoldable pub columns_of : List ℕ → Option Columns
columns_of line = find (λ order. bytes_eq line (name_line order)) orders

-- the arc of a line whose values, in the order typed, are x, y and z
abbrev pub arc_of : Columns → ℕ → ℕ → ℕ → Arc
arc_of FromToLeast x y z = record { tail = x; head = y; least = z }
arc_of FromLeastTo x y z = record { tail = x; head = z; least = y }
arc_of ToFromLeast x y z = record { tail = y; head = x; least = z }
arc_of ToLeastFrom x y z = record { tail = z; head = x; least = y }
arc_of LeastFromTo x y z = record { tail = y; head = z; least = x }
arc_of LeastToFrom x y z = record { tail = z; head = y; least = x }
