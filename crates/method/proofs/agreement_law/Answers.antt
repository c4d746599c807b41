use Rattle.method.proofs.Agreeing as agreeing
use Rattle.method.proofs.agreement_law.Goals as goal

pub returns : goal.returns
returns c = agreeing.agreement_law
