use Rattle.queue.proofs.Finds.{marks}
use Rattle.queue.proofs.slots.mark.Goals as goal

pub returns-then-home-slot : goal.returns-then-home-slot
returns-then-home-slot g c =
    marks _ _ _ _ _ c.index-es-home.result c.in-Some.ensures.1 c.in-Some.ensures.0 c.stray.ensures.item c.stray.ensures.winner c.stray.ensures.strayed
