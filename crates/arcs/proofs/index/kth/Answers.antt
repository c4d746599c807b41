use Rattle.std.proofs.Common.{◌+◌, ◌<◌, sym, ap, inl, inr, arith}
use Rattle.std.specs.List.{slice_get}
use Rattle.arcs.proofs.Groups.{beyond_none, kth_there, kth_past, group_room}
use Rattle.arcs.proofs.index.kth.Goals as goal

pub returns-then-place-places : goal.returns-then-place-places
returns-then-place-places c end m x =
    sym (ap (λ xs. slice_get xs c.args.k) (beyond_none end m c.args.places c.args.ends.now c.args.order.now x c.args.place (λ l. elim c.then-place-places.either [ inl h ↦ omega arith | inr h ↦ omega (arith, x.places) ])))

pub returns-then-at-order : goal.returns-then-at-order
returns-then-at-order c end m x =
    let l : c.args.place < c.args.places = omega arith in
    sym (kth_there end m c.args.places c.args.ends.now c.args.order.now x c.args.place c.args.k (c.start.result + c.args.k) l (ap (λ z. z + c.args.k) (c.start.ensures end m c.args.places l x.ends_right)) (omega arith))

pub returns-else-at-ends : goal.returns-else-at-ends
returns-else-at-ends c end m x =
    let l : c.args.place < c.args.places = omega arith in
    let room = group_room end m c.args.places c.args.ends.now c.args.order.now x c.args.place l in
    sym (kth_past end m c.args.places c.args.ends.now c.args.order.now x c.args.place c.args.k (c.start.result + c.args.k) l (ap (λ z. z + c.args.k) (c.start.ensures end m c.args.places l x.ends_right)) (elim c.else-at-ends.either [ inl h ↦ omega arith | inr h ↦ omega arith ]))
