-- Heights of places, and what roads with heights mean. Assumes nothing.
use Rattle.std.specs.Prelude.{ℕ, ◌+◌, ◌-◌, ◌<◌, ◌≤◌, List, length, slice_index}
use Rattle.arcs.specs.Tables.{arc_at}
use Rattle.ground.specs.Meanings.{Meaning}
use Rattle.terms.specs.declared.arc.Arc.{Arc}

-- the height of a place
abbrev pub height_of : List ℕ → ℕ → ℕ
height_of heights p = slice_index heights p

-- an arc's head stands no higher above its tail than its least cost
abbrev pub StepAt : List Arc → List ℕ → ℕ → Type 0
StepAt arcs heights j = height_of heights (arc_at arcs j).head ≤ height_of heights (arc_at arcs j).tail + (arc_at arcs j).least

-- so does every arc's
abbrev pub Steps : List Arc → List ℕ → Type 0
Steps arcs heights = (j : ℕ) → j < length arcs → StepAt arcs heights j

-- no place is higher than any estimate may be
abbrev pub LowHeights : ℕ → List ℕ → Type 0
LowHeights n heights = (p : ℕ) → p < n → height_of heights p ≤ 163830000

-- What n places with heights and a table of arcs mean. The estimate is how much higher the second place is, if it is.
abbrev pub roads_meaning : ℕ → List Arc → List ℕ → Meaning
roads_meaning n arcs heights = record {
  places = n;
  arcs = length arcs;
  tail = λ j. (arc_at arcs j).tail;
  head = λ j. (arc_at arcs j).head;
  least = λ j. (arc_at arcs j).least;
  estimate = λ a s. height_of heights s - height_of heights a;
}
