use Rattle.std.proofs.Common.{List, subst}
use Rattle.queue.specs.Calls.{SmallestIs}
use Rattle.queue.specs.Keys.{key_cmp}
use Rattle.queue.specs.declared.entry.Entry.{Entry}
use Rattle.queue.specs.declared.key.Key.{Key}
use Rattle.search.proofs.waiting.first_waiting.Goals as goal

pub returns-clause-smallest : goal.returns-clause-smallest
returns-clause-smallest c = subst (λ (z : List (Entry Key)). SmallestIs key_cmp z c.smallest.result) c.resume.ensures.content c.smallest.ensures
