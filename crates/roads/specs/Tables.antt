-- The tables of roads. Assumes nothing.
use Rattle.std.specs.Prelude.{◌≡◌}
use Rattle.roads.specs.declared.roads.Roads.{Roads}
use Rattle.arcs.specs.Lists.{SameTables}
use Rattle.roads.specs.Loads.{Own}

-- the tables that these roads keep their heights and their index in
abbrev pub tables_of : Roads → Own
tables_of r = record {
  heights = r.heights.now;
  leaving = r.leaving.ends.now;
  leavers = r.leaving.order.now;
  entering = r.entering.ends.now;
  enterers = r.entering.order.now;
}

-- both stand over the same tables
pub record SameNames (r r' : Roads) : Type 0 where
  pub heights : r'.heights.ghost_name ≡ r.heights.ghost_name
  pub leaving : SameTables r.leaving r'.leaving
  pub entering : SameTables r.entering r'.entering
