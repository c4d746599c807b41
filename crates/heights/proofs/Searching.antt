-- Searches upward, and through a list.
use Rattle.std.proofs.Common.{◌≡◌, ℕ, zero, suc, ◌+◌, ◌<◌, ◌≤◌, Bool, true, false, cond, List, [], ◌∷◌, Some, None, sym, refl, ap, ◌∙◌, inl, inr, arith}
use Rattle.ground.specs.KnownLaws.{not_both, one_answer}
use Rattle.std.proofs.lemmas.Bool.{cases_eq, or_cases, false≢true}
use Rattle.std.specs.List.{find, list_any, range_with_len, slice_get}

-- a search through a list that succeeds has found one that passes
pub some_at : (t : ℕ → Bool) (xs : List ℕ) → list_any t xs ≡ true → (k : ℕ) × (j : ℕ) × (slice_get xs k ≡ Some j) × (t j ≡ true)
some_at t [] e = absurd (false≢true e)
some_at t (x ∷ xs) e = elim (or_cases (t x) (list_any t xs) e) [
  | inl h ↦ (0, x, refl, h)
  | inr h ↦ let r = some_at t xs h in (suc r.0, r.1, r.2, r.3)
]

module _ (t : ℕ → Bool) where
  pub first_none : (a n : ℕ) → ((w : ℕ) → t w ≡ false) → find t (range_with_len a n) ≡ None
  first_none a zero off = refl
  first_none a (suc n) off = ap (λ b. cond b (Some a) (find t (range_with_len (a + 1) n))) (off a) ∙ first_none (a + 1) n off

  pub first_least : (a n v : ℕ) → a ≤ v → v < a + n → t v ≡ true → ((w : ℕ) → w < v → t w ≡ false) → find t (range_with_len a n) ≡ Some v
  first_least a zero v l h e off = absurd (omega arith)
  first_least a (suc n) v l h e off = elim (cases_eq a v) [
    | inl s ↦ ap (λ b. cond b (Some a) (find t (range_with_len (a + 1) n))) (ap t s ∙ e) ∙ ap Some s
    | inr d ↦ ap (λ b. cond b (Some a) (find t (range_with_len (a + 1) n))) (off a (omega arith)) ∙ first_least (a + 1) n v (omega arith) (omega arith) e off
  ]

  -- what is found passes, and none from a on below it
  pub first_at : (a n v : ℕ) → find t (range_with_len a n) ≡ Some v → (t v ≡ true) × ((w : ℕ) → a ≤ w → w < v → t w ≡ false)
  first_at a zero v e = absurd (not_both None v e refl)
  first_at a (suc n) v e = at (t a) refl (first_at (a + 1) n v) e
    where
      Found : ℕ → Type 0
      Found a = (t v ≡ true) × ((w : ℕ) → a ≤ w → w < v → t w ≡ false)

      at : (b : Bool) → t a ≡ b → (find t (range_with_len (a + 1) n) ≡ Some v → Found (a + 1)) → cond b (Some a) (find t (range_with_len (a + 1) n)) ≡ Some v → Found a
      at true p later e = let s = one_answer (Some a) a v refl e in (ap t (sym s) ∙ p, λ w l h. absurd (omega arith))
      at false p later e = let r = later e in (r.0, λ w l h. elim (cases_eq a w) [ inl s ↦ ap t (sym s) ∙ p | inr d ↦ r.1 w (omega arith) h ])
