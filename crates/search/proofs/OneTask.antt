-- Tables lent on for one task. Assumes nothing.
use Rattle.std.proofs.Common.{ℕ, Bor, List, Option, refl, ◌∙◌, subst}
use Rattle.ground.specs.declared.ground.Ground.{Ghosts}
use Rattle.method.specs.States.{State}
use Rattle.queue.specs.declared.entry.Entry.{Entry}
use Rattle.queue.specs.declared.key.Key.{Key}
use Rattle.search.specs.declared.made.Made.{Made}
use Rattle.search.specs.declared.place.Place.{Place}
use Rattle.search.specs.declared.tables.Tables.{Tables}
use Rattle.search.specs.declared.task.Task.{Task}
use Rattle.search.specs.Same.{Same}
use Rattle.search.specs.Steps.{Due, InStep, RunMade, TurnMade}
use Rattle.search.specs.Tables.{Shows}
use Rattle.search.specs.Turning.{Lowered, Raised, StaysSynced}

module _ {G : Type 0} {b : Ghosts G} where
  pub same_on : (t u v : Tables G b) → Same t u → Same u v → Same t v
  same_on t u v s r = record { task = r.task ∙ s.task; places = r.places ∙ s.places; entries = r.entries ∙ s.entries }

  pub same_self : (t : Tables G b) → Same t t
  same_self t = record { task = refl; places = refl; entries = refl }

  module _ (t u : Tables G b) (s : Same t u) where
    pub lowered_on : (j value : ℕ) (ps qs : List Place) → Lowered (b.meaning u.task.now.site.now) u.task.now.aim u.task.now.costs.now j value ps qs → Lowered (b.meaning t.task.now.site.now) t.task.now.aim t.task.now.costs.now j value ps qs
    lowered_on j value ps qs = subst (λ (x : Bor (Task G)). Lowered (b.meaning x.now.site.now) x.now.aim x.now.costs.now j value ps qs) s.task

    pub raised_on : (j value : ℕ) (ps qs : List Place) → Raised (b.meaning u.task.now.site.now) u.task.now.aim u.task.now.costs.now j value ps qs → Raised (b.meaning t.task.now.site.now) t.task.now.aim t.task.now.costs.now j value ps qs
    raised_on j value ps qs = subst (λ (x : Bor (Task G)). Raised (b.meaning x.now.site.now) x.now.aim x.now.costs.now j value ps qs) s.task

    pub synced_on : (ps qs : List Place) (es fs : List (Entry Key)) → StaysSynced (b.meaning u.task.now.site.now) u.task.now.aim ps es qs fs → StaysSynced (b.meaning t.task.now.site.now) t.task.now.aim ps es qs fs
    synced_on ps qs es fs = subst (λ (x : Bor (Task G)). StaysSynced (b.meaning x.now.site.now) x.now.aim ps es qs fs) s.task

    pub due_on : (ps : List Place) (es : List (Entry Key)) (o : Option ℕ) → (InStep (b.meaning u.task.now.site.now) u.task.now.aim u.task.now.costs.now ps es → (x : State) → Shows (b.meaning u.task.now.site.now) x u.task.now.aim u.task.now.costs.now ps → Due (b.meaning u.task.now.site.now) x o) →
        InStep (b.meaning t.task.now.site.now) t.task.now.aim t.task.now.costs.now ps es → (x : State) → Shows (b.meaning t.task.now.site.now) x t.task.now.aim t.task.now.costs.now ps → Due (b.meaning t.task.now.site.now) x o
    due_on ps es o = subst (λ (y : Bor (Task G)). InStep (b.meaning y.now.site.now) y.now.aim y.now.costs.now ps es → (x : State) → Shows (b.meaning y.now.site.now) x y.now.aim y.now.costs.now ps → Due (b.meaning y.now.site.now) x o) s.task

    pub made_on : (p : ℕ) (ps : List Place) (es : List (Entry Key)) (qs : List Place) (fs : List (Entry Key)) → TurnMade (b.meaning u.task.now.site.now) u.task.now.aim u.task.now.costs.now p ps es qs fs → TurnMade (b.meaning t.task.now.site.now) t.task.now.aim t.task.now.costs.now p ps es qs fs
    made_on p ps es qs fs = subst (λ (y : Bor (Task G)). TurnMade (b.meaning y.now.site.now) y.now.aim y.now.costs.now p ps es qs fs) s.task

    pub run_on : (turns : ℕ) (ps : List Place) (es : List (Entry Key)) (qs : List Place) (fs : List (Entry Key)) (r : Made) → RunMade (b.meaning u.task.now.site.now) u.task.now.aim u.task.now.costs.now turns ps es qs fs r → RunMade (b.meaning t.task.now.site.now) t.task.now.aim t.task.now.costs.now turns ps es qs fs r
    run_on turns ps es qs fs r = subst (λ (y : Bor (Task G)). RunMade (b.meaning y.now.site.now) y.now.aim y.now.costs.now turns ps es qs fs r) s.task
