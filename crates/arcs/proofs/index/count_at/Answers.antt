use Rattle.std.proofs.Common.{◌<◌, length, sym, ap, inl, inr, arith}
use Rattle.arcs.proofs.Groups.{beyond_none}
use Rattle.arcs.proofs.index.count_at.Goals as goal

pub returns-then-place-places : goal.returns-then-place-places
returns-then-place-places c end m order x =
    sym (ap length (beyond_none end m c.args.places c.args.ends.now order x c.args.place (λ l. elim c.then-place-places.either [ inl h ↦ omega arith | inr h ↦ omega (arith, x.places) ])))

pub returns : goal.returns
returns c end m order x =
    let l : c.args.place < c.args.places = omega arith in
    omega (arith, c.saturating_sub.ensures, c.start.ensures end m c.args.places l x.ends_right, x.ends_right c.args.place l)
