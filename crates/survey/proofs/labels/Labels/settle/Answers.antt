use Rattle.std.proofs.Common.{◌≡◌, ℕ, ◌+◌, List, ◌∷◌, get_or, drop, ap, ◌∙◌, subst, sym, add-one, drop-cons, arith}
use Rattle.std.proofs.lemmas.Option.{slice_get-get_or}
use Rattle.std.specs.List.{slice_get}
use Rattle.ground.proofs.ArcsAt.{arcs_at-at}
use Rattle.survey.specs.Labels.{Labelled}
use Rattle.survey.specs.Underway.{ground_of}
use Rattle.survey.proofs.labels.Labels.settle.Goals as goal

pub relax-requires-clause-there : goal.relax-requires-clause-there
relax-requires-clause-there c =
    let task = c.args.task.now in
    let g = ground_of task in
    let items = c.at-j-items.result.now in
    let i = c.loop-j.j-index in
    (arcs_at-at g.tail g.arcs c.args.place i (get_or items i 0) (ap (λ xs. slice_get xs i) (sym (c.at-j-items.ensures.list ∙ task.indexed c.args.place)) ∙ slice_get-get_or items i 0 c.loop-j-test.true)).0

pub loop-j-preserved : goal.loop-j-preserved
loop-j-preserved c =
    let task = c.args.task.now in
    let g = ground_of task in
    let items = c.at-j-items.result.now in
    let i = c.loop-j.j-index in
    let l = c.loop-j.self in
    let has = slice_get-get_or items i 0 c.loop-j-test.true in
    let w = arcs_at-at g.tail g.arcs c.args.place i (get_or items i 0) (ap (λ xs. slice_get xs i) (sym (c.at-j-items.ensures.list ∙ task.indexed c.args.place)) ∙ has) in
    let next : drop i items ≡ get_or items i 0 ∷ drop (i + 1) items = rw (add-one) (drop-cons items i 0 c.loop-j-test.true) in
    let o = c.loop-j.invariant.onward in
    let before = subst (λ (xs : List ℕ). Labelled g task.from xs l.sums.now l.queue.entries.now) next o.labelled in
    let r = c.relax.ensures.done (drop (i + 1) items) before (omega (arith, c.requires.near, c.loop-j.invariant.falls c.args.place, ap (λ p. get_or l.sums.now p 0) w.1)) in
    record {
      falls = λ p. omega (arith, c.relax.ensures.falls p, c.loop-j.invariant.falls p);
      onward = record { labelled = r.labelled; lighter = omega (arith, o.lighter, r.lighter) };
    }
