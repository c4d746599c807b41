use Rattle.std.proofs.Common.{◌≡◌, ◌∙◌, arith, rules}
use Rattle.std.proofs.lemmas.Iterator.{YieldsList-from_slice}
use Rattle.std.proofs.lemmas.Iterator.Adapters.{serves_from_places}
use Rattle.std.proofs.lemmas.List.{get_or_default}
use Rattle.arcs.specs.Tables.{arc_at, LawfulArc}
use Rattle.roads.proofs.check.first_steep.Goals as goal

-- each arc that comes up is one of the net's, so its ends are among the places
pub position-requires-clause-callable : goal.position-requires-clause-callable
position-requires-clause-callable c =
    let net = c.args.net.now in
    serves_from_places (YieldsList-from_slice net.arcs.now c.iter.ensures.rest) (λ x q r. search rules)
    (λ x k h e.
    let is : x.now ≡ arc_at net.arcs.now k = e ∙ get_or_default net.arcs.now k _ _ h in
    let lawful : LawfulArc net.places x.now = rw is (net.lawful k h) in
    λ _ _ _ _ _ _ _ _. (omega arith, omega arith))
