use Rattle.std.proofs.Common.{refl, arith}
use Rattle.std.proofs.lemmas.List.{length-take-le}
use Rattle.arcs.proofs.Fronts.{front_indexed}
use Rattle.arcs.proofs.Listed.{indexed_at, indexed_listing}
use Rattle.arcs.proofs.lists.Index.fill.Goals as goal

pub invariant_of-self : goal.invariant_of-self
invariant_of-self c =
    let room = c.if-not-has_room.ensures.0 refl in
    record { listing = indexed_listing _ _ _ _ _ (front_indexed _ _ _ _ _ _ (omega (arith, length-take-le c.args.net.now.places c.args.self.now.ends.now room.ends)) c.sort.ensures.done) }

pub returns-clause-done : goal.returns-clause-done
returns-clause-done c room = indexed_at _ _ _ _ _ (front_indexed _ _ _ _ _ _ (omega (arith, length-take-le c.args.net.now.places c.args.self.now.ends.now room.ends)) c.sort.ensures.done)

pub returns-clause-tables : goal.returns-clause-tables
returns-clause-tables c room = front_indexed _ _ _ _ _ _ (omega (arith, length-take-le c.args.net.now.places c.args.self.now.ends.now room.ends)) c.sort.ensures.done
