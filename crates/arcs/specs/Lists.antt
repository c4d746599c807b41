-- The lists of an index. Assumes nothing.
use Rattle.std.specs.Prelude.{◌≡◌, ℕ, ◌≤◌, List, [], length, nat_lt, if◌then◌else◌, slice_index, slice_range}
use Rattle.arcs.specs.Index.{start_in}
use Rattle.arcs.specs.Nets.{arcs_by}
use Rattle.ground.specs.declared.end.End.{End}
use Rattle.arcs.specs.declared.lists.Index.{Index}
use Rattle.arcs.specs.declared.net.Net.{Net}

-- where the list of a place starts in the order
abbrev pub start_at : Index → ℕ → ℕ
start_at i p = start_in i.ends.now p

-- the list of a place, and none beyond the places
abbrev pub list_at : Index → ℕ → List ℕ
list_at i p = if nat_lt p i.places then slice_range i.order.now (start_at i p) (slice_index i.ends.now p) else []

-- the tables have an entry for each of n places and of m arcs
pub record HasRoom (i : Index) (n m : ℕ) : Type 0 where
  pub ends : n ≤ length i.ends.now
  pub order : m ≤ length i.order.now

-- the list of each place is that of the net's arcs with this end there
abbrev pub Indexes : Index → End → Net → Type 0
Indexes i end net = (p : ℕ) → list_at i p ≡ arcs_by end net p

-- both stand over the same tables
pub record SameTables (i i' : Index) : Type 0 where
  pub ends : i'.ends.ghost_name ≡ i.ends.ghost_name
  pub order : i'.order.ghost_name ≡ i.order.ghost_name
  pub ends_len : length i'.ends.now ≡ length i.ends.now
  pub order_len : length i'.order.now ≡ length i.order.now
