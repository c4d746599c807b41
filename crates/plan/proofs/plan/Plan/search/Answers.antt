use Rattle.std.proofs.Common.{◌≡◌, ◌-◌, ◌≤◌, true, false, ◌++◌, length, Some, sym, ap, ◌∙◌, subst, arith}
use borrow.Rule.Slice.PartMut.{post_of}
use Rattle.std.proofs.lemmas.Bool.{ltb-false, or_parts}
use Rattle.ground.specs.Meanings.{Lawful}
use Rattle.method.specs.States.{is_changed}
use Rattle.method.specs.Calls.{outcome, search_for}
use Rattle.plan.specs.Stands.{HeldBy, Holds}
use Rattle.plan.specs.declared.header.Header.{Header}
use Rattle.plan.proofs.Admitting.{begun_on_is, one_header}
use Rattle.plan.proofs.Fronting.{part_size}
use Rattle.plan.proofs.Searching.{ready_sized, ready_slots, ready_cached, ready_shows, ready_synced, said_of, search_accepts, search_beyond, search_carried, search_course_lem}
use Rattle.plan.proofs.plan.Plan.search.Goals as goal

pub returns-then-made : goal.returns-then-made
returns-then-made g c =
    let m = g.G.Ground.meaning c.args.site.now in
    let law : Lawful m = g.G.Ground.lawful c.args.site.now in
    let o = c.args.self.now.header in
    let h = c.in_ok-header.header in
    let costs = c.args.costs.now in
    let places = c.args.places.now in
    let queue = c.args.queue.now in
    let course = c.in_ok-course.course in
    let made = c.search-made.result in
    let places₁ = c.search-made.new.places in
    let queue₁ = c.search-made.new.entries in
    let on = begun_on_is o m h c.in_ok-header.ensures in
    let long = sym c.if-is_short.ensures in
    let rest = or_parts _ _ (or_parts _ _ long).1 in
    let room : h.places ≤ length places = ltb-false _ _ rest.0 in
    let slots_room : h.places ≤ length queue = ltb-false _ _ (or_parts _ _ rest.1).0 in
    let size : length places₁ ≡ h.places = omega (arith, part_size h.places places room, c.search-made.auto.places) in
    let slots : length queue₁ ≡ h.places = omega (arith, part_size h.places queue slots_room, c.search-made.auto.entries) in
    let way = search_course_lem h.phase course c.in_ok-course.ensures in
    record {
      declined = search_accepts m law o h on costs places queue long c.args.turns;
      kept = tt;
      beyond = search_beyond m law o h on costs places queue long c.searched-header.result places₁ queue₁ size slots;
      state = λ s few found.
          let held : HeldBy m s h (record { header = o; costs = costs; places = places; queue = queue }) = subst (λ (x : Header). HeldBy m s x (record { header = o; costs = costs; places = places; queue = queue })) (one_header o found.0 h found.1.begun on.header) found.1 in
          let done = c.search-made.ensures.made (ready_sized m law s h costs places queue o held) (ready_slots m law s h costs places queue o held) held.within (ready_cached m law s h costs places queue o held) (λ e. ready_synced m law s h costs places queue o held (ap is_changed (sym held.phase_is) ∙ sym way.0 ∙ e)) s (ready_shows m law s h costs places queue o held) in
          subst (λ (x : Header). (said_of true made.turns x.count ≡ (outcome m s (search_for c.args.turns)).answer) × Holds m (outcome m s (search_for c.args.turns)).after (record { header = Some x; costs = costs; places = places₁ ++ post_of 0 (h.places - 0) places; queue = queue₁ ++ post_of 0 (h.places - 0) queue })) (sym c.searched-header.ensures)
          (search_carried m law s h costs places queue o held few c.args.turns course way made c.search-made.ensures.few (omega arith) places₁ queue₁ size slots done true c.if-made.true);
    }

pub returns-else-made : goal.returns-else-made
returns-else-made g c =
    let m = g.G.Ground.meaning c.args.site.now in
    let law : Lawful m = g.G.Ground.lawful c.args.site.now in
    let o = c.args.self.now.header in
    let h = c.in_ok-header.header in
    let costs = c.args.costs.now in
    let places = c.args.places.now in
    let queue = c.args.queue.now in
    let course = c.in_ok-course.course in
    let made = c.search-made.result in
    let places₁ = c.search-made.new.places in
    let queue₁ = c.search-made.new.entries in
    let on = begun_on_is o m h c.in_ok-header.ensures in
    let long = sym c.if-is_short.ensures in
    let rest = or_parts _ _ (or_parts _ _ long).1 in
    let room : h.places ≤ length places = ltb-false _ _ rest.0 in
    let slots_room : h.places ≤ length queue = ltb-false _ _ (or_parts _ _ rest.1).0 in
    let size : length places₁ ≡ h.places = omega (arith, part_size h.places places room, c.search-made.auto.places) in
    let slots : length queue₁ ≡ h.places = omega (arith, part_size h.places queue slots_room, c.search-made.auto.entries) in
    let way = search_course_lem h.phase course c.in_ok-course.ensures in
    record {
      declined = search_accepts m law o h on costs places queue long c.args.turns;
      kept = tt;
      beyond = search_beyond m law o h on costs places queue long c.searched-header.result places₁ queue₁ size slots;
      state = λ s few found.
          let held : HeldBy m s h (record { header = o; costs = costs; places = places; queue = queue }) = subst (λ (x : Header). HeldBy m s x (record { header = o; costs = costs; places = places; queue = queue })) (one_header o found.0 h found.1.begun on.header) found.1 in
          let done = c.search-made.ensures.made (ready_sized m law s h costs places queue o held) (ready_slots m law s h costs places queue o held) held.within (ready_cached m law s h costs places queue o held) (λ e. ready_synced m law s h costs places queue o held (ap is_changed (sym held.phase_is) ∙ sym way.0 ∙ e)) s (ready_shows m law s h costs places queue o held) in
          subst (λ (x : Header). (said_of false made.turns x.count ≡ (outcome m s (search_for c.args.turns)).answer) × Holds m (outcome m s (search_for c.args.turns)).after (record { header = Some x; costs = costs; places = places₁ ++ post_of 0 (h.places - 0) places; queue = queue₁ ++ post_of 0 (h.places - 0) queue })) (sym c.searched-header.ensures)
          (search_carried m law s h costs places queue o held few c.args.turns course way made c.search-made.ensures.few (omega arith) places₁ queue₁ size slots done false c.if-made.false);
    }
