-- The order of the planner's keys. Assumes nothing.
use Rattle.std.specs.declared.cmp.Ordering.{Ordering}
use Rattle.std.specs.Ordering.{nat_cmp, ordering_then}
use Rattle.std.specs.Prelude.{Bool, ◌&&◌, ◌||◌, ◌==◌, nat_le, nat_lt}
use Rattle.queue.specs.declared.key.Key.{Key}

-- firsts are compared, then seconds
abbrev pub key_cmp : Key → Key → Ordering
key_cmp a b = ordering_then (nat_cmp a.first b.first) (nat_cmp a.second b.second)

-- the first key comes before the second or equals it
abbrev pub key_upto : Key → Key → Bool
key_upto a b = nat_lt a.first b.first || (a.first == b.first && nat_le a.second b.second)
