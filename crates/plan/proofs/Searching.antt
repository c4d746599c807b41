-- What Search answers and leaves. Assumes nothing.
use Rattle.std.proofs.Common.{◌≡◌, ℕ, ◌+◌, ◌-◌, ◌*◌, ◌≤◌, Bool, true, false, cond, List, [], ◌∷◌, ◌++◌, length, take, drop, Some, None, Ok, Option, Result, sym, refl, ap, ◌∙◌, subst, arith}
use borrow.Rule.Slice.PartMut.{post_of}
use Rattle.std.proofs.lemmas.List.{take_at}
use Rattle.terms.specs.declared.refusal.Refusal.{Refusal}
use Rattle.ground.specs.Meanings.{Meaning, Lawful}
use Rattle.method.specs.Calls.{cuts, emptied, in_phase, outcome, search_for, searched, settles, start, verdict, Answer as Said}
use Rattle.method.specs.Handed.{is_short}
use Rattle.method.specs.States.{State, is_changed}
use Rattle.method.specs.Turns.{ended, run}
use Rattle.plan.specs.declared.phase.Phase.{Phase}
use Rattle.plan.specs.declared.phase.Phase.TheVariants.{Changed, UnderWay, Settled}
use Rattle.queue.specs.declared.entry.Entry.{Entry}
use Rattle.queue.specs.declared.key.Key.{Key}
use Rattle.search.specs.Queued.{Synced}
use Rattle.search.specs.Steps.{SearchMade}
use Rattle.search.specs.Tables.{Cached, Shows, Sized, nowhere}
use Rattle.search.specs.declared.place.Place.{Place}
use Rattle.search.specs.declared.made.Made.{Made}
use Rattle.plan.specs.Courses.{course_of, searched_to}
use Rattle.plan.specs.Phases.{stage_of}
use Rattle.plan.specs.Declines.{search_declines}
use Rattle.plan.specs.Stands.{Beyond, HeldBy, Holds}
use Rattle.plan.specs.declared.course.Course.{Course}
use Rattle.plan.specs.declared.course.Kind.TheVariants.{Search}
use Rattle.plan.specs.declared.header.Header.{Header}
use Rattle.plan.proofs.Admitting.{BegunOn, not_turned_away}
use Rattle.plan.proofs.Fronting.{SameFront, front_at, front_rest, front_size, part_at, part_same, part_size, part_sized, same_cached, same_shows, same_synced}

-- the course of a search
pub search_course_lem : (phase : Phase) (c : Course) → ◌≡◌ {A = Result Course Refusal} (Ok c) (course_of phase Search) → (c.afresh ≡ is_changed (stage_of phase)) × (c.next ≡ UnderWay)
search_course_lem Changed c e = let same : c ≡ record { afresh = true; next = UnderWay } = cc in (ap (λ (x : Course). x.afresh) same, ap (λ (x : Course). x.next) same)
search_course_lem UnderWay c e = let same : c ≡ record { afresh = false; next = UnderWay } = cc in (ap (λ (x : Course). x.afresh) same, ap (λ (x : Course). x.next) same)
search_course_lem Settled c e = let same : c ≡ record { afresh = false; next = UnderWay } = cc in (ap (λ (x : Course). x.afresh) same, ap (λ (x : Course). x.next) same)

-- what a search says
abbrev pub said_of : Bool → ℕ → ℕ → Said
said_of true turns count = settles turns count
said_of false turns count = cuts turns count

-- where the search went, from where it started
abbrev went : Meaning → State → ℕ → Bool → State
went m s turns afresh = run m turns (cond afresh (emptied m s) s)

module _ (m : Meaning) (law : Lawful m) (s : State) (h : Header) (costs : List ℕ) (places : List Place) (queue : List (Entry Key)) (o : Option Header) (held : HeldBy m s h (record { header = o; costs = costs; places = places; queue = queue })) where
  pub ready_sized : Sized m (take (h.arcs - 0) (drop 0 costs)) (take (h.places - 0) (drop 0 places))
  ready_sized = part_sized m h.arcs h.places costs places held.same_arcs held.same_places held.costs_room held.places_room

  same_part : SameFront m costs places (take (h.arcs - 0) (drop 0 costs)) (take (h.places - 0) (drop 0 places))
  same_part = part_same m h.arcs h.places costs places held.same_arcs held.same_places

  pub ready_slots : length (take (h.places - 0) (drop 0 queue)) ≡ m.places
  ready_slots = part_size h.places queue (omega (arith, held.queue_room, held.same_places)) ∙ held.same_places

  pub ready_cached : Cached m h.aim (take (h.arcs - 0) (drop 0 costs)) (take (h.places - 0) (drop 0 places))
  ready_cached = same_cached m law h.aim costs places _ _ same_part held.cached

  pub ready_shows : Shows m s h.aim (take (h.arcs - 0) (drop 0 costs)) (take (h.places - 0) (drop 0 places))
  ready_shows = same_shows m h.aim costs places _ _ same_part s held.shows

  pub ready_synced : is_changed s.phase ≡ false → Synced m h.aim m.places (take (h.places - 0) (drop 0 places)) (take (h.places - 0) (drop 0 queue))
  ready_synced e =
      let k : m.places ≡ h.places - 0 = omega (arith, held.same_places) in
      subst (λ (z : ℕ). Synced m h.aim m.places (take (h.places - 0) (drop 0 places)) (take z queue)) k (same_synced m h.aim costs places _ _ same_part _ (held.synced e))

  module _ (few : (start m s).count ≤ 2 * m.places) (turns : ℕ) (course : Course) (is : (course.afresh ≡ is_changed (stage_of h.phase)) × (course.next ≡ UnderWay)) (made : Made) (low : made.turns ≤ turns) (short : turns ≤ 65535) (places₁ : List Place) (queue₁ : List (Entry Key)) (size : length places₁ ≡ h.places) (slots : length queue₁ ≡ h.places) (done : SearchMade m h.aim course.afresh (take (h.arcs - 0) (drop 0 costs)) turns (take (h.places - 0) (drop 0 places)) places₁ queue₁ made s) where
    afresh_is : course.afresh ≡ is_changed s.phase
    afresh_is = is.0 ∙ ap is_changed held.phase_is

    -- the search of the method went the same way
    went_is : went m s turns course.afresh ≡ searched m s turns
    went_is = ap (went m s turns) afresh_is

    counted : (searched m s turns).count ≡ (start m s).count + made.turns
    counted = ap (λ (x : State). x.count) (sym went_is) ∙ done.counted ∙ ap (λ b. (cond b (emptied m s) s).count + made.turns) afresh_is

    from_zero : (b : Bool) → cond b 0 h.count ≡ (cond b (emptied m s) s).count
    from_zero true = refl
    from_zero false = held.counted

    count_is : (searched_to h course made).count ≡ (searched m s turns).count
    count_is =
        let e : cond course.afresh 0 h.count ≡ (start m s).count = from_zero course.afresh ∙ ap (λ b. (cond b (emptied m s) s).count) afresh_is in
        omega (arith, e, counted, few, low, short, law.few_places)

    same_front : SameFront m (take (h.arcs - 0) (drop 0 costs)) places₁ costs (places₁ ++ post_of 0 (h.places - 0) places)
    same_front = record {
      same_costs = λ j k. sym (part_at h.arcs costs 0 j (omega (arith, k, held.same_arcs)));
      same_places = λ p k. front_at h.places places places₁ size nowhere p (omega (arith, k, held.same_places));
    }

    shown : Shows m (searched m s turns) h.aim costs (places₁ ++ post_of 0 (h.places - 0) places)
    shown = same_shows m h.aim _ _ _ _ same_front (searched m s turns) (subst (λ t. Shows m t h.aim (take (h.arcs - 0) (drop 0 costs)) places₁) went_is done.shows)

    front_is : take m.places (queue₁ ++ post_of 0 (h.places - 0) queue) ≡ queue₁
    front_is = take_at queue₁ (post_of 0 (h.places - 0) queue) m.places (slots ∙ held.same_places)

    ends_is : made.settled ≡ ended m (searched m s turns)
    ends_is = done.ends ∙ ap (ended m) went_is

    -- the plan and its tables hold the state after the search, in any phase that the header tells
    after_held : (phase : Phase) → (searched_to h course made).phase ≡ phase → HeldBy m (in_phase m (stage_of phase) (searched m s turns)) (searched_to h course made) (record { header = Some (searched_to h course made); costs = costs; places = places₁ ++ post_of 0 (h.places - 0) places; queue = queue₁ ++ post_of 0 (h.places - 0) queue })
    after_held phase p = record {
      begun = refl;
      same_places = held.same_places;
      same_arcs = held.same_arcs;
      costs_room = held.costs_room;
      places_room = omega (arith, held.same_places, front_size h.places places places₁ size (omega (arith, held.places_room, held.same_places)));
      queue_room = omega (arith, held.same_places, front_size h.places queue queue₁ slots (omega (arith, held.queue_room, held.same_places)));
      within = held.within;
      shows = record { costs_are = shown.costs_are; values_are = shown.values_are; closed_are = shown.closed_are; here_is = shown.here_is; landing_is = shown.landing_is; slack_is = shown.slack_is };
      counted = count_is;
      phase_is = ap stage_of p;
      cached = same_cached m law h.aim _ _ _ _ same_front done.in_step.cached;
      synced = λ _. subst (λ (es : List (Entry Key)). Synced m h.aim m.places (places₁ ++ post_of 0 (h.places - 0) places) es) (sym front_is) (same_synced m h.aim _ _ _ _ same_front queue₁ done.in_step.synced);
    }

    pub search_carried : (b : Bool) → made.settled ≡ b → (said_of b made.turns (searched_to h course made).count ≡ (outcome m s (search_for turns)).answer) × Holds m (outcome m s (search_for turns)).after (record { header = Some (searched_to h course made); costs = costs; places = places₁ ++ post_of 0 (h.places - 0) places; queue = queue₁ ++ post_of 0 (h.places - 0) queue })
    unfolding outcome
    search_carried b e =
        let by : made.turns ≡ (searched m s turns).count - (start m s).count = omega (arith, counted) in
        let ends : ended m (searched m s turns) ≡ b = sym ends_is ∙ e in
        said b e by ends
      where
        said : (b : Bool) → made.settled ≡ b → made.turns ≡ (searched m s turns).count - (start m s).count → ended m (searched m s turns) ≡ b → (said_of b made.turns (searched_to h course made).count ≡ (verdict m (ended m (searched m s turns)) ((searched m s turns).count - (start m s).count) (searched m s turns)).answer) × Holds m (verdict m (ended m (searched m s turns)) ((searched m s turns).count - (start m s).count) (searched m s turns)).after (record { header = Some (searched_to h course made); costs = costs; places = places₁ ++ post_of 0 (h.places - 0) places; queue = queue₁ ++ post_of 0 (h.places - 0) queue })
        said true e by ends = rw ends ((λ i. settles (by i) (count_is i)), (searched_to h course made, after_held Settled (ap (λ x. cond x Settled course.next) e)))
        said false e by ends = rw ends ((λ i. cuts (by i) (count_is i)), (searched_to h course made, after_held UnderWay (ap (λ x. cond x Settled course.next) e ∙ is.1)))

-- all that Search answers for, once it went its way: whatever the plan held, and whatever came of it
module _ (m : Meaning) (law : Lawful m) (o : Option Header) (h : Header) (on : BegunOn o m h) (costs : List ℕ) (places : List Place) (queue : List (Entry Key)) (long : is_short ((length costs, h.arcs) ∷ (length places, h.places) ∷ (length queue, h.places) ∷ []) ≡ false) where
  lent_is : is_short ((length costs, m.arcs) ∷ (length places, m.places) ∷ (length queue, m.places) ∷ []) ≡ false
  lent_is = sym (λ i. is_short ((length costs, on.arcs_same i) ∷ (length places, on.places_same i) ∷ (length queue, on.places_same i) ∷ [])) ∙ long

  pub search_accepts : (turns : ℕ) → None ≡ search_declines o m turns (length costs) (length places) (length queue)
  search_accepts turns = sym (not_turned_away o m h on _ lent_is (search_for turns))

  pub search_beyond : (h' : Header) (places₁ : List Place) (queue₁ : List (Entry Key)) → length places₁ ≡ h.places → length queue₁ ≡ h.places → Beyond m (record { header = o; costs = costs; places = places; queue = queue }) (record { header = Some h'; costs = costs; places = places₁ ++ post_of 0 (h.places - 0) places; queue = queue₁ ++ post_of 0 (h.places - 0) queue })
  search_beyond h' places₁ queue₁ size slots = record {
    costs_beyond = refl;
    places_beyond = subst (λ (n : ℕ). drop n (places₁ ++ post_of 0 (h.places - 0) places) ≡ drop n places) on.places_same (front_rest h.places places places₁ size);
    queue_beyond = subst (λ (n : ℕ). drop n (queue₁ ++ post_of 0 (h.places - 0) queue) ≡ drop n queue) on.places_same (front_rest h.places queue queue₁ slots);
  }
