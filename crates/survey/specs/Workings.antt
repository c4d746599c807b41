-- The working table. Assumes nothing.
use Rattle.std.specs.Prelude.{◌≡◌, ℕ, ◌<◌, ◌≤◌, List, length, slice_index, slice_index_or}
use Rattle.arcs.specs.Index.{SameFrom}
use Rattle.queue.specs.Content.{free_entry}
use Rattle.survey.specs.declared.working.Working.{Working}

-- every column has an entry for each of n places or of m arcs
pub record HasRoom (work : Working) (n m : ℕ) : Type 0 where
  pub ends : n ≤ length work.ends.now
  pub order : m ≤ length work.order.now
  pub sums : n ≤ length work.sums.now
  pub queue : n ≤ length work.queue.now

-- a column is 0 as far as needed, and stays beyond
pub record WipedTo (n : ℕ) (xs xs' : List ℕ) : Type 0 where
  pub zero : (k : ℕ) → k < n → slice_index xs' k ≡ 0
  pub beyond : SameFrom n xs xs'

-- the working table is wiped as far as needed
pub record Wiped (n m : ℕ) (work work' : Working) : Type 0 where
  pub ends : WipedTo n work.ends.now work'.ends.now
  pub order : WipedTo m work.order.now work'.order.now
  pub sums : WipedTo n work.sums.now work'.sums.now
  pub queue : (k : ℕ) → k < n → slice_index_or work'.queue.now k free_entry ≡ free_entry
  pub queue_beyond : (k : ℕ) → n ≤ k → slice_index_or work'.queue.now k free_entry ≡ slice_index_or work.queue.now k free_entry

-- both stand over the same columns, each as long as it was
pub record SameNames (work work' : Working) : Type 0 where
  pub ends : work'.ends.ghost_name ≡ work.ends.ghost_name
  pub order : work'.order.ghost_name ≡ work.order.ghost_name
  pub sums : work'.sums.ghost_name ≡ work.sums.ghost_name
  pub queue : work'.queue.ghost_name ≡ work.queue.ghost_name
  pub ends_len : length work'.ends.now ≡ length work.ends.now
  pub order_len : length work'.order.now ≡ length work.order.now
  pub sums_len : length work'.sums.now ≡ length work.sums.now
  pub queue_len : length work'.queue.now ≡ length work.queue.now
