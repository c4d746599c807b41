-- Laws of the ends of arcs, and of the arcs at a place by either end.
use Rattle.std.proofs.Common.{◌≡◌, ℕ, ◌+◌, ◌<◌, ◌∷◌, drop, Some, sym, arith}
use Rattle.std.specs.List.{slice_get}
use Rattle.ground.proofs.ArcsAt.{arcs_at-few}
use Rattle.ground.proofs.Walks.{drop_at}
use Rattle.ground.specs.Ends.{end_of, arcs_by}
use Rattle.ground.specs.Meanings.{Meaning, Lawful}
use Rattle.ground.specs.declared.end.End.{End}
use Rattle.ground.specs.declared.end.End.TheVariants.{Tail, Head}

pub end_in : (e : End) (m : Meaning) → Lawful m → (j : ℕ) → j < m.arcs → end_of e m j < m.places
end_in Tail m l = l.tail_in
end_in Head m l = l.head_in

-- after the k-th arc there is room for one more in k, and the others are to come
pub arcs_by-next : (e : End) (m : Meaning) (p k x : ℕ) → Lawful m → Some x ≡ slice_get (arcs_by e m p) k → (k < 131072) × (drop k (arcs_by e m p) ≡ x ∷ drop (k + 1) (arcs_by e m p))
arcs_by-next e m p k x lawful is =
    let at = drop_at (arcs_by e m p) k x (sym is) in
    (omega (arith, at.0, arcs_at-few (end_of e m) m.arcs p, lawful.few_arcs), at.1)
