use Rattle.method.proofs.Accepting as accepting
use Rattle.method.proofs.begin_law.Goals as goal

pub returns : goal.returns
returns c = accepting.begin_law
