use Rattle.std.proofs.Common.{rules}
use Rattle.ground.specs.Questions.{arcs_at}
use Rattle.method.specs.Calls.{outcome}
use Rattle.method.specs.Keys.{key}
use Rattle.method.specs.Turns.{ended, turn_taken, run}
use Rattle.method.specs.Values.{rhs, is_open}
use Rattle.known_cases.proofs.known_cases.Goals as goal

pub returns : goal.returns
unfolding outcome run turn_taken ended key is_open rhs arcs_at
returns c = search rules
