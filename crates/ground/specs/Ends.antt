-- The arcs at a place by either end. Assumes nothing.
use Rattle.std.specs.Prelude.{ℕ, List}
use Rattle.ground.specs.Meanings.{Meaning}
use Rattle.ground.specs.Questions.{arcs_at}
use Rattle.ground.specs.declared.end.End.{End}
use Rattle.ground.specs.declared.end.End.TheVariants.{Tail, Head}

abbrev pub end_of : End → Meaning → ℕ → ℕ
end_of Tail m = m.tail
end_of Head m = m.head

-- the arcs that have the end at a place: those that leave it by their tail, and those that enter it by their head
abbrev pub arcs_by : End → Meaning → ℕ → List ℕ
arcs_by e m p = arcs_at (end_of e m) m.arcs p
