-- The order of keys in the queue and in the method are one. Assumes nothing.
use Rattle.std.proofs.Common.{◌≡◌, ℕ, ◌<◌, true, false, arith}
use Rattle.std.proofs.lemmas.Bool.Decides.{nat_tests}
use Rattle.method.specs.Keys.{before, Key as Pair}
use Rattle.queue.specs.Keys.{key_cmp, key_upto}
use Rattle.queue.specs.Tree.{before as ahead}
use Rattle.search.specs.Queued.{entry_key}

pub upto_before : (k l : Pair) → key_upto (entry_key k) (entry_key l) ≡ true → before l k ≡ false
upto_before k l h = grind (arith, nat_tests)

pub before_upto : (k l : Pair) → before l k ≡ false → key_upto (entry_key k) (entry_key l) ≡ true
before_upto k l h = grind (arith, nat_tests)

-- of two items, the one that is ahead has no larger key, and has a smaller one where its number is the larger
pub ahead_least : (p q : ℕ) (k l : Pair) → ahead key_cmp (p, entry_key k) (q, entry_key l) ≡ true → before l k ≡ false
ahead_least p q k l h = grind (arith, nat_tests)

pub ahead_lowest : (p q : ℕ) (k l : Pair) → ahead key_cmp (p, entry_key k) (q, entry_key l) ≡ true → q < p → before k l ≡ true
ahead_lowest p q k l h low = grind (arith, nat_tests)

pub before_carries : (h k l : Pair) → before k h ≡ false → before l k ≡ false → before l h ≡ false
before_carries h k l a b = grind (arith, nat_tests)

pub not_before_self : (k : Pair) → before k k ≡ false
not_before_self k = grind (arith, nat_tests)
