-- That tables are lent on. Assumes nothing.
use Rattle.std.specs.Prelude.{◌≡◌}
use Rattle.ground.specs.declared.ground.Ground.{Ghosts}
use Rattle.search.specs.declared.tables.Tables.{Tables}

-- both are for one task, over the same lent tables
pub record Same {G : Type 0} {b : Ghosts G} (t t' : Tables G b) : Type 0 where
  pub task : t'.task ≡ t.task
  pub places : t'.places.ghost_name ≡ t.places.ghost_name
  pub entries : t'.entries.ghost_name ≡ t.entries.ghost_name
