use Rattle.std.specs.Ordering.{nat_cmp}
use Rattle.std.proofs.Common.{Result, subst, arith}
use Rattle.queue.specs.Calls.{PutDone}
use Rattle.survey.specs.Underway.{ground_of}
use Rattle.survey.proofs.Relaxing.{relax_lower}
use Rattle.survey.proofs.labels.Labels.relax.Goals as goal
use Rattle.terms.specs.declared.refusal.Refusal.{Refusal}

pub returns-then-next-self-clause-done : goal.returns-then-next-self-clause-done
returns-then-next-self-clause-done c pending l near =
    let g = ground_of c.args.task.now in
    let es = c.args.self.now.queue.entries.now in
    let j = c.args.j in
    let ok = c.args.task.now.net.lawful j c.requires.there in
    let e = c.put.ensures.low l.sound l.low (omega (arith, ok.head_in, l.slots)) in
    let t = subst (λ (r : Result (Unit {0}) Refusal). PutDone nat_cmp (g.head j) c.capped_sum-next.result es c.put.new.self.entries.now r) e c.put.ensures.done l.sound in
    relax_lower g c.args.task.now.from j pending c.args.self.now.sums.now es l _ c.capped_sum-next.result c.requires.there ok.tail_in ok.head_in ok.least_high c.put.ensures.table.size near (omega (arith, c.capped_sum-next.ensures, l.top (g.head j))) (omega arith) t
