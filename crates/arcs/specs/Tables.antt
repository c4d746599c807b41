-- Tables of arcs, and which of their arcs are lawful. Assumes nothing.
use Rattle.std.specs.Prelude.{ℕ, ◌<◌, ◌≤◌, List, length, slice_index_or}
use Rattle.terms.specs.declared.arc.Arc.{Arc}
use Rattle.ground.specs.declared.end.End.{End}
use Rattle.ground.specs.declared.end.End.TheVariants.{Tail, Head}

-- arc j of a table, and zeros past its end
abbrev pub arc_at : List Arc → ℕ → Arc
arc_at arcs j = slice_index_or arcs j (record { tail = 0; head = 0; least = 0 })

-- the place at one end of an arc
abbrev pub end_of : End → Arc → ℕ
end_of Tail a = a.tail
end_of Head a = a.head

-- the place at one end of arc j
abbrev pub end_at : End → List Arc → ℕ → ℕ
end_at end arcs j = end_of end (arc_at arcs j)

-- both ends are among the first n places, and the least cost is one
pub record LawfulArc (n : ℕ) (a : Arc) : Type 0 where
  pub tail_in : a.tail < n
  pub head_in : a.head < n
  pub least_low : 1 ≤ a.least
  pub least_high : a.least ≤ 10000

-- every arc is lawful
abbrev pub AllLawful : ℕ → List Arc → Type 0
AllLawful n arcs = (j : ℕ) → j < length arcs → LawfulArc n (arc_at arcs j)

-- arc j is the lowest that is not
pub record LowestUnlawful (n : ℕ) (arcs : List Arc) (j : ℕ) : Type 0 where
  pub there : j < length arcs
  pub unlawful : LawfulArc n (arc_at arcs j) → ⊥
  pub lowest : (i : ℕ) → i < j → LawfulArc n (arc_at arcs i)
