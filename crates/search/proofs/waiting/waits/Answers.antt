use Rattle.std.proofs.Common.{rules}
use Rattle.search.proofs.QueueSide.{put_keeps, withdraw_keeps}
use Rattle.search.proofs.waiting.waits.Goals as goal

pub returns-in-Some : goal.returns-in-Some
returns-in-Some c sound low fits =
    put_keeps c.args.p c.in-Some.key _ c.resume_exact-queue.result.entries.now c.args.entries.now c.put.new.self.entries.now _ c.put.result c.resume_exact-queue.ensures.content (search rules) (search rules) c.put.ensures.low c.put.ensures.done sound low fits

pub returns-in-None : goal.returns-in-None
returns-in-None c sound low fits =
    withdraw_keeps c.args.p _ c.resume_exact-queue.result.entries.now c.args.entries.now c.withdraw.new.self.entries.now _ c.withdraw.result c.resume_exact-queue.ensures.content (search rules) (search rules) c.withdraw.ensures.done sound
