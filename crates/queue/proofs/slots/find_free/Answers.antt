use Rattle.std.proofs.Common.{◌≡◌, is_none, true, false, rules}
use Rattle.std.proofs.lemmas.Iterator.{IsFirst-from_position, YieldsList-from_slice}
use borrow.Author.Tests.{tests}
use Rattle.queue.specs.Content.{item_of}
use Rattle.queue.proofs.Finds.{room_first}
use Rattle.queue.proofs.slots.find_free.Goals as goal

pub returns-else-is_free : goal.returns-else-is_free
returns-else-is_free g c =
    room_first _ _ (IsFirst-from_position _ _ c.position.result (λ e. is_none (item_of e) ≡ true) (λ e. is_none (item_of e) ≡ false) c.position.ensures.ran (YieldsList-from_slice c.args.es.now cc) (λ x q k. search (rules, tests)) (λ x q k. search (rules, tests)))
