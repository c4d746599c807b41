-- How a survey takes up a place, and ends.
use Rattle.std.specs.Ordering.{nat_cmp}
use Rattle.std.proofs.Common.{◌≡◌, ℕ, ◌+◌, ◌*◌, ◌<◌, ◌≤◌, ltb, List, [], length, get_or, None, sym, ap, ◌∙◌, inl, inr, arith}
use Rattle.ground.proofs.ArcsAt.{arcs_at-has}
use Rattle.ground.specs.Chains.{Chain, sum_of}
use Rattle.ground.specs.KnownLaws.{not_both}
use Rattle.ground.specs.Meanings.{Meaning}
use Rattle.ground.specs.Questions.{arcs_at}
use Rattle.queue.specs.Calls.{Freed, Leads}
use Rattle.queue.specs.Content.{key_of}
use Rattle.queue.specs.declared.entry.Entry.{Entry}
use Rattle.std.proofs.lemmas.List.Sums.{count_by-le-length}
use Rattle.std.proofs.lemmas.Bool.{cases_eq}
use Rattle.std.proofs.lemmas.Option.{get_or_from_slice_get}
use Rattle.survey.specs.Labels.{Labelled, reached}
use Rattle.survey.specs.Sums.{Surveyed}
use Rattle.survey.proofs.Chaining.{chain_falls}
use Rattle.survey.proofs.Relaxing.{changed_same, changed_other}
use Rattle.terms.specs.Amounts.{far}

module _ (g : Meaning) (from : ℕ) where
  few_reached : (pending sums : List ℕ) (es : List (Entry ℕ)) → Labelled g from pending sums es → reached sums ≤ g.places
  few_reached pending sums es l = omega (arith, count_by-le-length (λ s. ltb s far) sums, l.size)

  -- a place is taken out of the queue, and its arcs are pending
  pub take_up : (sums : List ℕ) (es es' : List (Entry ℕ)) (p k : ℕ) → Labelled g from [] sums es → length es' ≡ length es → Leads nat_cmp es (p, k) → Freed nat_cmp p es es' → Labelled g from (arcs_at g.tail g.arcs p) sums es'
  take_up sums es es' p k l size' lead f = record {
    size = l.size;
    slots = size' ∙ l.slots;
    top = l.top;
    start = l.start;
    chains = l.chains;
    bound = l.bound;
    relaxed = λ j h out near none. elim (cases_eq (g.tail j) p) [
      | inl e ↦ (let w = arcs_at-has g.tail g.arcs p j h e in absurd (out (w.0, w.1, get_or_from_slice_get (arcs_at g.tail g.arcs p) w.0 j j w.2)))
      | inr ne ↦ l.relaxed j h (λ o. omega arith) near (sym (changed_other es es' p None f.content (g.tail j) ne) ∙ none)
    ];
    sound = f.sound;
    low = λ m v e. elim (cases_eq m p) [ inl h ↦ absurd (not_both (key_of es' m) v e (ap (key_of es') h ∙ changed_same es es' p None f.content)) | inr ne ↦ omega (arith, l.low m v (sym (changed_other es es' p None f.content m ne) ∙ e)) ];
    known = λ m v e. elim (cases_eq m p) [ inl h ↦ absurd (not_both (key_of es' m) v e (ap (key_of es') h ∙ changed_same es es' p None f.content)) | inr ne ↦ l.known m v (sym (changed_other es es' p None f.content m ne) ∙ e) ];
  }

  pub taken_in : (sums : List ℕ) (es : List (Entry ℕ)) (p k : ℕ) → Labelled g from [] sums es → Leads nat_cmp es (p, k) → (p < g.places) × (get_or sums p 0 < far) × (get_or sums p 0 + 10000 ≤ 10000 * g.places)
  taken_in sums es p k l lead =
      let h : p < g.places = omega (arith, l.low p k lead.stands, l.slots) in
      let near = l.known p k lead.stands in
      (h, near, omega (arith, l.bound p h near, few_reached [] sums es l))

  -- nothing is queued and nothing pending: every sum is the least
  module _ (sums : List ℕ) (es : List (Entry ℕ)) (few : g.places ≤ 16384) (tail_in : (j : ℕ) → j < g.arcs → g.tail j < g.places) (least_high : (j : ℕ) → j < g.arcs → g.least j ≤ 10000) (start_in : from < g.places) (l : Labelled g from [] sums es) (none : (n : ℕ) → key_of es n ≡ None) where
    step : (j : ℕ) → j < g.arcs → get_or sums (g.tail j) 0 < far → (get_or sums (g.head j) 0 ≤ get_or sums (g.tail j) 0 + g.least j) × (get_or sums (g.head j) 0 < far)
    step j h near =
        let r = l.relaxed j h (λ o. omega arith) near (none (g.tail j)) in
        (r, omega (arith, l.bound (g.tail j) (tail_in j h) near, least_high j h, few_reached [] sums es l))

    falls : (js : List ℕ) (p : ℕ) → Chain g from js p → (get_or sums p 0 ≤ sum_of g.least js) × (get_or sums p 0 < far)
    falls js p c =
        let w = chain_falls g (λ q. get_or sums q 0) far step js from p c (omega (arith, l.start)) in
        (omega (arith, l.start), w.1)

    pub all_least : Surveyed g from sums
    all_least = record {
      size = l.size;
      reached = λ p h near. let w = l.chains p h near in record { chain = w.0; joins = w.1; sum = w.2; least = λ js c. (falls js p c).0 };
      apart = λ p h beyond js c. omega (arith, (falls js p c).1);
      low = λ p h near. omega (arith, l.bound p h near, few_reached [] sums es l);
      steps = λ j h near. (step j h near).0;
    }
