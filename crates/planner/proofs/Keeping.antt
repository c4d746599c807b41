-- Every past keeps its promise, since every past of a plan does. Assumes nothing.
use Rattle.std.proofs.Common.{subst}
use Rattle.ground.specs.Meanings.{Meaning, Lawful}
use Rattle.method.specs.Pasts.{Begin, Accepted, Past, Told}
use Rattle.method.proofs.Promised.{route_promise}
use Rattle.planner.specs.PastPromise.{PastPromise}

pub past_promise : (m : Meaning) → Lawful m → (b : Begin) → Accepted m b → (past : Past) → Told m b past → PastPromise m b past
past_promise m law b acc past told = record {
  keeps_slack = λ older entries answer is settled_before. (route_promise m law).keeps_slack b acc older entries answer (subst (Told m b) is told) settled_before;
  no_way = λ older entries answer is settled_before. (route_promise m law).no_way b acc older entries answer (subst (Told m b) is told) settled_before;
  few_turns = λ newer stretch older is quiet. (route_promise m law).few_turns b acc newer stretch older (subst (Told m b) is told) quiet;
  settles_in_time = λ older turns answer is enough ok. (route_promise m law).settles_in_time b acc older turns answer (subst (Told m b) is told) enough ok;
}
