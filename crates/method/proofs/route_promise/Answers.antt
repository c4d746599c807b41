use Rattle.method.proofs.Promised as promised
use Rattle.method.proofs.route_promise.Goals as goal

pub returns : goal.returns
returns c = promised.route_promise
