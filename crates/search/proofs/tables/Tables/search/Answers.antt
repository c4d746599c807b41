use Rattle.std.proofs.Common.{refl, sym, subst}
use Rattle.search.specs.declared.tables.Tables.{Tables}
use Rattle.search.specs.Same.{Same}
use Rattle.search.proofs.OneTask.{run_on, same_self}
use Rattle.search.proofs.Starts.{Ready, ready_afresh, ready_again}
use Rattle.search.proofs.tables.Tables.search.Goals as goal
use Rattle.search.proofs.tables.Tables.search.Goals.{then-afresh, else-afresh}

pub returns-clause-made : goal.returns-clause-made
returns-clause-made g c = λ within cached synced s sh.
    let t = c.args.self.now in
    let m = g.G.Ground.meaning t.task.now.site.now in
    let law = g.G.Ground.lawful t.task.now.site.now in
    let aim = t.task.now.aim in
    let costs = t.task.now.costs.now in
    let u = c.if-afresh.self in
    let w = c.run.new.self in
    let fits = t.sized.places_fit in
    let both : Same t u × Ready m aim c.args.afresh costs u.places.now u.entries.now s = elim c.if-afresh.branch [
      | then-afresh a ↦ subst (λ (v : Tables g.row.G.Denot g.G.Ground). Same t v × Ready m aim c.args.afresh costs v.places.now v.entries.now s) (sym a.self-is)
          (a.start_afresh.ensures.same, ready_afresh m law aim costs t.places.now a.start_afresh.new.self.places.now a.start_afresh.new.self.entries.now fits cached s sh a.start_afresh.ensures.started c.args.afresh a.if-afresh.true)
      | else-afresh a ↦ subst (λ (v : Tables g.row.G.Denot g.G.Ground). Same t v × Ready m aim c.args.afresh costs v.places.now v.entries.now s) (sym a.self-is)
          (same_self t, ready_again m law aim costs t.places.now t.places.now t.entries.now fits cached s sh c.args.afresh a.if-afresh.false refl (synced a.if-afresh.false))
    ] in
    let ready = both.1 in
    let made = run_on t u both.0 c.args.turns u.places.now u.entries.now w.places.now w.entries.now c.run.result c.run.ensures.made in
    record {
      in_step = made.in_step ready.in_step;
      shows = made.shows ready.in_step _ ready.shows;
      counted = made.counted ready.in_step _ ready.shows;
      ends = made.ends ready.in_step _ ready.shows;
    }
