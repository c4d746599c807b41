use Rattle.method.proofs.Chosen as chosen
use Rattle.method.proofs.choice_laws.Goals as goal

pub returns : goal.returns
returns c = chosen.choice_laws
