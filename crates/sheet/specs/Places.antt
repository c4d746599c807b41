-- How many places arcs speak of. Assumes nothing.
use Rattle.std.specs.Prelude.{ℕ, ◌+◌, max, List, fold}
use Rattle.terms.specs.declared.arc.Arc.{Arc}

-- the places so far, or more where an end of the arc is past them
abbrev pub reach : ℕ → Arc → ℕ
reach places a = max (max places (a.tail + 1)) (a.head + 1)

-- one more than the highest place number; none if there is no arc
abbrev pub places_of : List Arc → ℕ
places_of arcs = fold reach 0 arcs
