-- One arc is relaxed.
use Rattle.std.specs.Ordering.{nat_cmp}
use Rattle.std.proofs.Common.{◌≡◌, ℕ, suc, ◌+◌, ◌*◌, ◌<◌, ◌≤◌, Bool, true, false, cond, eqb, ltb, List, [], ◌∷◌, ◌++◌, length, get_or, set, is_some, Some, None, Option, sym, refl, ap, ◌∙◌, subst, inl, inr, arith, length-set, get_or-set_other, get_or-set_same}
use Rattle.ground.specs.Chains.{Chain, sum_of}
use Rattle.ground.specs.KnownLaws.{not_both}
use Rattle.ground.specs.Meanings.{Meaning}
use Rattle.queue.specs.Calls.{TakenIn, Changed}
use Rattle.queue.specs.Content.{key_of, held}
use Rattle.queue.specs.declared.entry.Entry.{Entry}
use Rattle.std.proofs.lemmas.Map.Made.{Contains-tail}
use Rattle.std.specs.List.{Contains}
use Rattle.std.proofs.lemmas.Map.{update_same, update_other}
use Rattle.std.proofs.lemmas.List.Sums.{sum_by-set}
use Rattle.std.proofs.lemmas.Bool.{cases_eq, cases_lt, eq-eqb, ne_eqb, lt-ltb, le-ltb, cond-true, cond-false}
use Rattle.survey.specs.Labels.{Labelled, Onward, reached}
use Rattle.survey.proofs.Chaining.{chain_more, sum_more}
use Rattle.terms.specs.Amounts.{far}

-- what stands under a number after a change at one
pub changed_same : {K : Type 0} (es es' : List (Entry K)) (n : ℕ) (o : Option K) → Changed n o es es' → key_of es' n ≡ o
changed_same es es' n o c = c n ∙ update_same eqb (key_of es) n o n (eq-eqb n n refl)

pub changed_other : {K : Type 0} (es es' : List (Entry K)) (n : ℕ) (o : Option K) → Changed n o es es' → (m : ℕ) → (m ≡ n → ⊥) → key_of es' m ≡ key_of es m
changed_other es es' n o c m ne = c m ∙ update_other eqb (key_of es) n o m (ne_eqb n m (λ i. ne (sym i)))

-- how many are reached once one more sum, or a lower one, is written
pub reached_new : (sums : List ℕ) (i v : ℕ) → i < length sums → far ≤ get_or sums i 0 → v < far → reached (set sums i v) ≡ reached sums + 1
reached_new sums i v l old new =
    let f : ℕ → ℕ = λ s. cond (ltb s far) 1 0 in
    omega (arith, sum_by-set f sums i v 0 l, cond-true {A = ℕ} (ltb v far) 1 0 (lt-ltb v far new), cond-false {A = ℕ} (ltb (get_or sums i 0) far) 1 0 (le-ltb (get_or sums i 0) far old))

reached_again : (sums : List ℕ) (i v : ℕ) → i < length sums → get_or sums i 0 < far → v < far → reached (set sums i v) ≡ reached sums
reached_again sums i v l old new =
    let f : ℕ → ℕ = λ s. cond (ltb s far) 1 0 in
    omega (arith, sum_by-set f sums i v 0 l, cond-true {A = ℕ} (ltb v far) 1 0 (lt-ltb v far new), cond-true {A = ℕ} (ltb (get_or sums i 0) far) 1 0 (lt-ltb (get_or sums i 0) far old))

held_few : (b : Bool) (n : ℕ) → cond b n (suc n) ≤ n + 1
held_few true n = omega arith
held_few false n = omega arith

module _ (g : Meaning) (from : ℕ) (j : ℕ) (pending sums : List ℕ) (es : List (Entry ℕ)) (l : Labelled g from (j ∷ pending) sums es) where
  -- it is shorter: the head has a lower sum, and is queued
  module _ (es' : List (Entry ℕ)) (next : ℕ) (there : j < g.arcs) (tail_in : g.tail j < g.places) (head_in : g.head j < g.places) (least_high : g.least j ≤ 10000) (size' : length es' ≡ length es)
      (near : get_or sums (g.tail j) 0 < far) (is : next ≡ get_or sums (g.tail j) 0 + g.least j) (less : next < get_or sums (g.head j) 0) (t : TakenIn nat_cmp (g.head j) next es es') where
    now_at : (p : ℕ) → p ≡ g.head j → get_or (set sums (g.head j) next) p 0 ≡ next
    now_at p e = ap (λ z. get_or (set sums (g.head j) next) z 0) e ∙ get_or-set_same sums (g.head j) next 0 (omega (arith, l.size))

    as_was : (p : ℕ) → (p ≡ g.head j → ⊥) → get_or (set sums (g.head j) next) p 0 ≡ get_or sums p 0
    as_was p ne = get_or-set_other sums (g.head j) p next 0 ne

    lower : (p : ℕ) → get_or (set sums (g.head j) next) p 0 ≤ get_or sums p 0
    lower p = elim (cases_eq p (g.head j)) [ inl e ↦ omega (arith, now_at p e, ap (λ z. get_or sums z 0) e) | inr ne ↦ omega (arith, as_was p ne) ]

    room : (next + 10000 ≤ 10000 * reached (set sums (g.head j) next)) × (reached sums ≤ reached (set sums (g.head j) next))
    room =
        let at = g.head j in
        let within : at < length sums = omega (arith, l.size) in
        elim (cases_lt (get_or sums at 0) far) [
          | inl h ↦ (let e = reached_again sums at next within h (omega (arith, l.top (g.head j))) in (omega (arith, e, l.bound at head_in h), omega (arith, e)))
          | inr h ↦ (let e = reached_new sums at next within h (omega (arith, l.top (g.head j))) in (omega (arith, e, l.bound (g.tail j) tail_in near), omega (arith, e)))
        ]

    chains' : (p : ℕ) → p < g.places → get_or (set sums (g.head j) next) p 0 < far → (js : List ℕ) × Chain g from js p × (sum_of g.least js ≡ get_or (set sums (g.head j) next) p 0)
    chains' p h k =
        elim (cases_eq p (g.head j)) [
          | inl e ↦ (let w = l.chains (g.tail j) tail_in near in (
            w.0 ++ j ∷ [],
            subst (λ (z : ℕ). Chain g from (w.0 ++ j ∷ []) z) (sym e) (chain_more g from w.0 j there head_in w.1),
            sum_more g g.least w.0 j ∙ ap (λ z. z + g.least j) w.2 ∙ sym is ∙ sym (now_at p e),
          ))
          | inr ne ↦ (let w = l.chains p h (omega (arith, as_was p ne)) in (w.0, w.1, w.2 ∙ sym (as_was p ne)))
        ]

    bound' : (p : ℕ) → p < g.places → get_or (set sums (g.head j) next) p 0 < far → get_or (set sums (g.head j) next) p 0 + 10000 ≤ 10000 * reached (set sums (g.head j) next)
    bound' p h k =
        elim (cases_eq p (g.head j)) [
          | inl e ↦ omega (arith, room, now_at p e)
          | inr ne ↦ omega (arith, room, as_was p ne, l.bound p h (omega (arith, as_was p ne)))
        ]

    relaxed' : (i : ℕ) → i < g.arcs → (Contains pending i → ⊥) → get_or (set sums (g.head j) next) (g.tail i) 0 < far → key_of es' (g.tail i) ≡ None → get_or (set sums (g.head j) next) (g.head i) 0 ≤ get_or (set sums (g.head j) next) (g.tail i) 0 + g.least i
    relaxed' i k out nearby none =
        let apart : g.tail i ≡ g.head j → ⊥ = λ e. not_both (key_of es' (g.tail i)) next (ap (key_of es') e ∙ changed_same es es' (g.head j) (Some next) t.content) none in
        let was = as_was (g.tail i) apart in
        elim (cases_eq i j) [
          | inl e ↦ omega (arith, was, now_at (g.head i) (ap g.head e), ap (λ z. get_or sums (g.tail z) 0) e, ap g.least e)
          | inr ne ↦ omega (arith, was, lower (g.head i), l.relaxed i k (λ has. out (Contains-tail j pending i (λ e. ne (sym e)) has)) (omega (arith, was)) (sym (changed_other es es' (g.head j) (Some next) t.content (g.tail i) apart) ∙ none))
        ]

    pub relax_lower : Onward g from pending sums es (set sums (g.head j) next) es'
    relax_lower = record {
      labelled = record {
        size = length-set sums (g.head j) next ∙ l.size;
        slots = size' ∙ l.slots;
        top = λ p. omega (arith, lower p, l.top p);
        start = elim (cases_eq from (g.head j)) [ inl e ↦ absurd (omega (arith, l.start, ap (λ z. get_or sums z 0) e)) | inr ne ↦ as_was from ne ∙ l.start ];
        chains = chains';
        bound = bound';
        relaxed = relaxed';
        sound = t.sound;
        low = λ m k e. elim (cases_eq m (g.head j)) [ inl h ↦ omega (arith, l.slots) | inr ne ↦ omega (arith, l.low m k (sym (changed_other es es' (g.head j) (Some next) t.content m ne) ∙ e)) ];
        known = λ p k e. elim (cases_eq p (g.head j)) [ inl h ↦ omega (arith, now_at p h, l.top (g.head j)) | inr ne ↦ omega (arith, as_was p ne, l.known p k (sym (changed_other es es' (g.head j) (Some next) t.content p ne) ∙ e)) ];
      };
      lighter = omega (arith, sum_by-set (λ x. x) sums (g.head j) next 0 (omega (arith, l.size)), t.count, held_few (is_some (key_of es (g.head j))) (held es));
    }
