use Rattle.std.proofs.Common.{rules}
use Rattle.search.proofs.Starts.{made_of}
use Rattle.search.proofs.search.search.Goals as goal

pub returns-clause-made : goal.returns-clause-made
returns-clause-made g c = λ sized slots within cached synced s sh. made_of _ _ _ _ _ _ _ _ _ _ _ _ (search rules) (search rules) (c.search.ensures.made within cached synced s sh)
