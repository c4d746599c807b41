use Rattle.std.proofs.Common.{◌≡◌, ℕ, ◌<◌, false, get_or, None}
use Rattle.queue.specs.Content.{items}
use Rattle.queue.specs.Sound.{under}
use Rattle.queue.proofs.Finds.{Freest}
use Rattle.queue.proofs.slots.scan_both.Given as goal

abbrev pub invariant-loop-slot : goal.invariant-loop-slot
invariant-loop-slot g l = Freest l.es l.slot l.free × ((s : ℕ) → s < l.slot → under (get_or (items l.es) s None) l.number ≡ false)
