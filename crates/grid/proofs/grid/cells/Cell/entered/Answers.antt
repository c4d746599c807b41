use Rattle.std.proofs.Common.{rules, tests, sym, ◌∙◌}
use Rattle.std.proofs.lemmas.Iterator.{YieldsList-from_slice}
use Rattle.std.proofs.lemmas.Iterator.Adapters.{option_map_id}
use Rattle.std.proofs.lemmas.Iterator.Consumers.{YieldsList-from_filter_map, nth_from_yields_List, YieldsList-at}
use Rattle.grid.proofs.grid.cells.Cell.entered.Goals as goal
use Rattle.grid.specs.Entries.{entries, entering}

pub returns : goal.returns
returns c =
    let cell = c.args.self in
    sym (option_map_id c.nth.result) ∙ nth_from_yields_List c.nth.result _ c.args.k c.nth.ensures.ran (YieldsList-from_filter_map _ (entering cell.grid.rows cell.grid.columns cell.place) (YieldsList-at c.filter_map.ensures.source (YieldsList-from_slice entries c.iter.ensures.rest)) c.filter_map.ensures.closure (λ x r q k. search (rules, tests)))
