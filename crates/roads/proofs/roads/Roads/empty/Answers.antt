use Rattle.arcs.proofs.Listed.{empty_indexes}
use Rattle.ground.specs.declared.end.End.TheVariants.{Tail, Head}
use Rattle.roads.proofs.Empties.{empty_tables}
use Rattle.roads.proofs.roads.Roads.empty.Goals as goal

pub invariant_of-result-clause-leaving_right : goal.invariant_of-result-clause-leaving_right
invariant_of-result-clause-leaving_right c = empty_indexes c.empty-2.result Tail c.empty.result c.empty-2.ensures.places c.empty.ensures.1

pub invariant_of-result-clause-entering_right : goal.invariant_of-result-clause-entering_right
invariant_of-result-clause-entering_right c = empty_indexes c.empty-3.result Head c.empty.result c.empty-3.ensures.places c.empty.ensures.1

pub invariant_of-result-clause-leaving_tables : goal.invariant_of-result-clause-leaving_tables
invariant_of-result-clause-leaving_tables c = empty_tables Tail c.empty.result _ _ c.empty.ensures.0 c.empty.ensures.1

pub invariant_of-result-clause-entering_tables : goal.invariant_of-result-clause-entering_tables
invariant_of-result-clause-entering_tables c = empty_tables Head c.empty.result _ _ c.empty.ensures.0 c.empty.ensures.1
