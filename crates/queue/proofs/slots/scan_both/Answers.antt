use Rattle.std.proofs.Common.{◌≡◌, ℕ, ◌+◌, Option, None, sym, subst, ◌∙◌, arith, below_more, get_or}
use Rattle.queue.specs.Content.{items}
use Rattle.queue.proofs.Contents.{none_under}
use Rattle.queue.proofs.Finds.{Freest, free_none, free_read, under_read, freest_none, freest_here, freest_past, scanned_all}
use Rattle.queue.proofs.slots.scan_both.Goals as goal
use Rattle.queue.proofs.slots.scan_both.Goals.{then-is_free, else-is_free+else-holds}

pub loop-slot-init : goal.loop-slot-init
loop-slot-init g c = (freest_none c.args.es.now, λ s l. absurd (omega arith))

pub loop-slot-preserved : goal.loop-slot-preserved
loop-slot-preserved g c =
    let es = c.args.es.now in
    let k = c.loop-slot.slot in
    let kept : Option ℕ → Type 0 = λ f. Freest es (k + 1) f in
    elim c.if-is_free.branch [
      | then-is_free w ↦
          let none : get_or (items es) k None ≡ None = free_none _ (free_read _ _ c.index-es-slot.result _ c.loop-slot-test.true c.index-es-slot.is (sym w.if-is_free.true ∙ c.is_free.ensures)) in
          (subst kept (sym w.free-is) (freest_here es k none), below_more _ _ c.loop-slot.invariant.1 (none_under _ _ none))
      | else-is_free+else-holds w ↦ (
        subst kept (sym w.free-is) (freest_past es k _ (free_read _ _ c.index-es-slot.result _ c.loop-slot-test.true c.index-es-slot.is (sym w.if-is_free.false ∙ c.is_free.ensures)) c.loop-slot.invariant.0),
        below_more _ _ c.loop-slot.invariant.1 (under_read _ _ _ c.index-es-slot.result _ c.loop-slot-test.true c.index-es-slot.is (sym w.if-holds.false ∙ w.holds.ensures)),
      )
    ]

pub returns : goal.returns
returns g c = scanned_all _ _ _ _ c.loop-slot.auto.slot-end c.loop-slot-test.false c.loop-slot.invariant.0 c.loop-slot.invariant.1
