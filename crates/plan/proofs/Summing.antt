-- What Sum answers. Assumes nothing.
use Rattle.std.proofs.Common.{◌≡◌, ℕ, ◌<◌, Bool, true, false, cond, ltb, List, [], ◌∷◌, length, get_or, Some, None, Ok, Err, Option, Result, sym, refl, ap, ◌∙◌, subst, arith}
use Rattle.terms.specs.declared.refusal.Refusal.{Refusal}
use Rattle.terms.specs.declared.refusal.Refusal.TheVariants.{NoSuchArc, TableShort}
use Rattle.ground.specs.Meanings.{Meaning}
use Rattle.method.specs.Calls.{capped_sum, outcome, refuses, sum_over, sums, sum_refusal}
use Rattle.method.specs.Handed.{is_short}
use Rattle.method.specs.States.{State}
use Rattle.method.specs.Turns.{all_of}
use Rattle.plan.specs.Declines.{no_such_arc, or_else, sum_declines}
use Rattle.plan.specs.Stands.{HeldBy, Holds, Stand}
use Rattle.plan.specs.declared.header.Header.{Header}
use Rattle.plan.proofs.Admitting.{unless_accepts, unless_refuses}
use Rattle.plan.proofs.Asking.{capped_same}

-- what adding up the arcs over a front of the costs comes to
abbrev pub totalled : List ℕ → List ℕ → Result ℕ Refusal
totalled front js = cond (all_of (λ j. ltb j (length front)) js) (Ok (capped_sum (λ j. get_or front j 0) js)) (Err NoSuchArc)

pub total_err : (b : Bool) (v : ℕ) (e : Refusal) → ◌≡◌ {A = Result ℕ Refusal} (Err e) (cond b (Ok v) (Err NoSuchArc)) → (b ≡ false) × (e ≡ NoSuchArc)
total_err true v e is = absurd (let z : ◌≡◌ {A = ℕ} 0 1 = cc in omega arith)
total_err false v e is = let same : e ≡ NoSuchArc = cc in (refl, same)

pub total_ok : (b : Bool) (v x : ℕ) → ◌≡◌ {A = Result ℕ Refusal} (Ok x) (cond b (Ok v) (Err NoSuchArc)) → (b ≡ true) × (x ≡ v)
total_ok true v x is = let same : x ≡ v = cc in (refl, same)
total_ok false v x is = absurd (let z : ◌≡◌ {A = ℕ} 0 1 = cc in omega arith)

-- the front of the costs that Sum adds up, on a ground with so many arcs
module _ (m : Meaning) (s : State) (k : Header) (stand : Stand) (held : HeldBy m s k stand) (front : List ℕ) (size : length front ≡ m.arcs) (agrees : (j : ℕ) → j < m.arcs → get_or front j 0 ≡ get_or stand.costs j 0) (js : List ℕ) where
  all_of_is : (b : Bool) → all_of (λ j. ltb j (length front)) js ≡ b → all_of (λ j. ltb j m.arcs) js ≡ b
  all_of_is b e = ap (λ n. all_of (λ j. ltb j n) js) (sym size) ∙ e

  pub sum_told : all_of (λ j. ltb j (length front)) js ≡ true → (sums (capped_sum (λ j. get_or front j 0) js) ≡ (outcome m s (sum_over js)).answer) × Holds m (outcome m s (sum_over js)).after stand
  unfolding outcome
  sum_told all =
      let u = unless_accepts s (sum_refusal m js) (record { after = s; answer = sums (capped_sum s.cost js) }) (ap (λ b. cond b None (Some NoSuchArc)) (all_of_is true all)) in
      let e = capped_same (λ j. get_or front j 0) s.cost m.arcs (λ j h. agrees j h ∙ held.shows.costs_are j h) js (all_of_is true all) in (
        ap sums e ∙ u.0,
        subst (λ t. Holds m t stand) (sym u.1) (k, held),
      )

  pub sum_refused : all_of (λ j. ltb j (length front)) js ≡ false → (refuses NoSuchArc ≡ (outcome m s (sum_over js)).answer) × Holds m (outcome m s (sum_over js)).after stand
  unfolding outcome
  sum_refused all =
      let u = unless_refuses s (sum_refusal m js) (record { after = s; answer = sums (capped_sum s.cost js) }) NoSuchArc (ap (λ b. cond b None (Some NoSuchArc)) (all_of_is false all)) in (
        u.0,
        subst (λ t. Holds m t stand) (sym u.1) (k, held),
      )

-- which refusal, if any, once the plan has begun and the costs have room
pub sum_declines_lem : (o : Option Header) (h : Header) (costs : ℕ) (js : List ℕ) (b : Bool) → o ≡ Some h → is_short ((costs, h.arcs) ∷ []) ≡ false → all_of (λ j. ltb j h.arcs) js ≡ b → sum_declines o js costs ≡ cond b None (Some NoSuchArc)
sum_declines_lem o h costs js b is long all =
    ap (λ x. sum_declines x js costs) is ∙ ap (λ t. or_else (cond t (Some TableShort) None) (no_such_arc h.arcs js)) long ∙ ap (λ t. cond t None (Some NoSuchArc)) all
