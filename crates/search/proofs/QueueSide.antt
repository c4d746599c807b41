-- One number in the queue. Assumes nothing.
use Rattle.std.proofs.Common.{◌≡◌, ℕ, ◌<◌, eqb, List, length, Some, None, Ok, Option, Result, sym, ap, ◌∙◌, subst, inl, inr}
use Rattle.std.specs.Map.{update}
use Rattle.std.proofs.lemmas.Map.{update_same, update_other}
use Rattle.std.proofs.lemmas.Bool.{cases_eq, eq-eqb, ne_eqb}
use Rattle.terms.specs.declared.refusal.Refusal.{Refusal}
use Rattle.queue.specs.Calls.{Low, PutDone, Withdrawn}
use Rattle.queue.specs.Content.{key_of}
use Rattle.queue.specs.Keys.{key_cmp}
use Rattle.queue.specs.Sound.{Sound}
use Rattle.queue.specs.declared.entry.Entry.{Entry}
use Rattle.queue.specs.declared.key.Key.{Key}
use Rattle.search.specs.Queued.{Kept}

-- a key put into the table, which was taken from another that holds the same
pub put_keeps : (p : ℕ) (k : Key) (o : Option Key) (es₀ es es' es'' : List (Entry Key)) (r : Result (Unit {0}) Refusal) → es₀ ≡ es → es'' ≡ es' → o ≡ Some k →
    (Sound key_cmp es₀ → Low es₀ → p < length es₀ → r ≡ Ok tt) → PutDone key_cmp p k es₀ es' r → Sound key_cmp es → Low es → p < length es → Kept p o es es''
put_keeps p k o es₀ es es' es'' r same end is room done sound low fits =
    let sound₀ = subst (λ (z : List (Entry Key)). Sound key_cmp z) (sym same) sound in
    let low₀ = subst (λ (z : List (Entry Key)). Low z) (sym same) low in
    let fits₀ = subst (λ (z : List (Entry Key)). p < length z) (sym same) fits in
    let taken = subst (λ (z : Result (Unit {0}) Refusal). PutDone key_cmp p k es₀ es' z) (room sound₀ low₀ fits₀) done sound₀ in
    let kept : Kept p (Some k) es₀ es' = record { sound = taken.sound; content = taken.content } in
    subst (λ (z : List (Entry Key)). Kept p o es z) (sym end) (subst (λ (z : List (Entry Key)). Kept p o z es') same (subst (λ (z : Option Key). Kept p z es₀ es') (sym is) kept))

-- a number withdrawn from the table, or nothing changed where it was not there
pub withdraw_keeps : (p : ℕ) (o : Option Key) (es₀ es es' es'' : List (Entry Key)) (r : Option Key) → es₀ ≡ es → es'' ≡ es' → o ≡ None → Withdrawn key_cmp p es₀ es' r → Sound key_cmp es → Kept p o es es''
withdraw_keeps p o es₀ es es' es'' r same end is done sound =
    let sound₀ = subst (λ (z : List (Entry Key)). Sound key_cmp z) (sym same) sound in
    subst (λ (z : List (Entry Key)). Kept p o es z) (sym end) (subst (λ (z : List (Entry Key)). Kept p o z es') same (subst (λ (z : Option Key). Kept p z es₀ es') (sym is) (kept r done sound₀)))
  where
    absent : key_of es₀ p ≡ None → (m : ℕ) → key_of es₀ m ≡ update eqb (key_of es₀) p None m
    absent none m = elim (cases_eq m p) [
      | inl e ↦ ap (key_of es₀) e ∙ none ∙ sym (update_same eqb (key_of es₀) p None m (eq-eqb p m (sym e)))
      | inr ne ↦ sym (update_other eqb (key_of es₀) p None m (ne_eqb p m (λ i. ne (sym i))))
    ]

    kept : (r : Option Key) → Withdrawn key_cmp p es₀ es' r → Sound key_cmp es₀ → Kept p None es₀ es'
    kept None d s = subst (λ (z : List (Entry Key)). Kept p None es₀ z) (sym d.0) (record { sound = s; content = absent (d.1 s) })
    kept (Some k) d s = let f = (d s).1 in record { sound = f.sound; content = f.content }
