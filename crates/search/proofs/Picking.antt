-- What `min_by_key` picks of the arcs at a place. Assumes nothing.
use Rattle.std.proofs.Common.{◌≡◌, ℕ, suc, ◌<◌, ◌≤◌, List, [], ◌∷◌, ◌++◌, Some, None, Option, Less, Equal, Greater, Ordering, append-nil, sym, refl, ap, ap₂, ◌∙◌, subst, inl, inr, arith}
use Rattle.std.proofs.lemmas.Bool.{cases_lt, cases_eq}
use Rattle.std.specs.Cmp.{nat_cmp_is}
use Rattle.std.specs.Fn.{CalledAt}
use Rattle.std.specs.Iterator.{KeyTurn, PicksMinByKey, YieldsFirst, Yields}
use Rattle.std.specs.List.{FoldsTo, slice_get}
use Rattle.std.specs.Ordering.{nat_cmp, min_by_ordering}
use Rattle.method.specs.Calls.{cheapest}
use Rattle.method.specs.Choices.{best, better}
use Rattle.search.proofs.Walking.{Beats, better_taken, better_kept}
use denote.Param.Members.{Mut}
use denote.Ref.{Bor}

-- an iterator that shows the list that is left gives that list
gives : (s xs t : List ℕ) → Yields (YieldsFirst (λ s. s)) s xs t → s ≡ xs ++ t
gives s [] t e = e
gives s (x ∷ xs) t (j, first, more) = first ∙ ap (λ ys. x ∷ ys) (gives j xs t more)

module _ (f : ℕ → ℕ) {F : Type 0} (g : Mut F (Bor ℕ × Unit {0}) ℕ) (asked : F) (P : ℕ → Type 0) (is : (x k : ℕ) (after : F) → P x → CalledAt g asked x k after → (k ≡ f x) × (after ≡ asked)) where
  abbrev Turn : (F × ℕ) × ℕ → ℕ → (F × ℕ) × ℕ → Type 0
  Turn = KeyTurn min_by_ordering min_by_ordering g nat_cmp

  abbrev at : ℕ → (F × ℕ) × ℕ
  at x = ((asked, f x), x)

  -- one turn keeps the better of two
  turned : (x z : ℕ) (j : (F × ℕ) × ℕ) → P z → Turn (at x) z j → (j.0.0 ≡ asked) × ((o : Ordering) × (nat_cmp (f x) (f z) ≡ o) × (j.0.1 ≡ min_by_ordering o (f x) (f z)) × (j.1 ≡ min_by_ordering o x z))
  turned x z j pz (k, o, called, cmp, key, item) =
      let w = is z k j.0.0 pz called in
      (w.1, (o, ap (nat_cmp (f x)) (sym w.0) ∙ cmp, key ∙ ap (min_by_ordering o (f x)) w.0, item))

  settled : (j : (F × ℕ) × ℕ) (y : ℕ) (key : ℕ) → j.0.0 ≡ asked → j.0.1 ≡ key → j.1 ≡ y → key ≡ f y → j ≡ at y
  settled j y key a b c d = ap₂ (λ p z. (p, z)) (ap₂ (λ u v. (u, v)) a (b ∙ d)) c

  takes : (x z : ℕ) (j : (F × ℕ) × ℕ) → P z → Turn (at x) z j → f z < f x → j ≡ at z
  takes x z j pz t l =
      let w = turned x z j pz t in
      let o : w.1.0 ≡ Greater = sym w.1.1 ∙ sym (nat_cmp_is (f x) (f z) Greater l) in
      settled j z (f z) w.0 (w.1.2 ∙ ap (λ o. min_by_ordering o (f x) (f z)) o) (w.1.3 ∙ ap (λ o. min_by_ordering o x z) o) refl

  keeps : (x z : ℕ) (j : (F × ℕ) × ℕ) → P z → Turn (at x) z j → f x ≤ f z → j ≡ at x
  keeps x z j pz t l =
      let w = turned x z j pz t in
      elim (cases_eq (f x) (f z)) [
        | inl e ↦ (
            let o : w.1.0 ≡ Equal = sym w.1.1 ∙ sym (nat_cmp_is (f x) (f z) Equal e) in
            settled j x (f x) w.0 (w.1.2 ∙ ap (λ o. min_by_ordering o (f x) (f z)) o) (w.1.3 ∙ ap (λ o. min_by_ordering o x z) o) refl
            )
        | inr d ↦ (
            let o : w.1.0 ≡ Less = sym w.1.1 ∙ sym (nat_cmp_is (f x) (f z) Less (omega arith)) in
            settled j x (f x) w.0 (w.1.2 ∙ ap (λ o. min_by_ordering o (f x) (f z)) o) (w.1.3 ∙ ap (λ o. min_by_ordering o x z) o) refl
            )
      ]

  turns : (xs : List ℕ) (x y : ℕ) (q : F × ℕ) → ((k z : ℕ) → slice_get xs k ≡ Some z → P z) → FoldsTo {P = (F × ℕ) × ℕ} Turn (at x) xs (q, y) → better (Beats f) x (best (Beats f) xs) ≡ Some y
  turns [] x y q all e = ap (λ w. Some w.1) e
  turns (z ∷ zs) x y q all (j, t, rest) = elim (cases_lt (f z) (f x)) [
    | inl l ↦ (better_taken f x z (best (Beats f) zs) l
        ∙ turns zs z y q (λ k v e. all (suc k) v e) (subst (λ w. FoldsTo {P = (F × ℕ) × ℕ} Turn w zs (q, y)) (takes x z j (all 0 z refl) t l) rest))
    | inr l ↦ (better_kept f x z (best (Beats f) zs) l
        ∙ turns zs x y q (λ k v e. all (suc k) v e) (subst (λ w. FoldsTo {P = (F × ℕ) × ℕ} Turn w zs (q, y)) (keeps x z j (all 0 z refl) t l) rest))
  ]

  -- the one with the smallest key, and the first of those
  pub picked : (arcs s : List ℕ) → s ≡ arcs → ((k z : ℕ) → slice_get arcs k ≡ Some z → P z) → (r : Option ℕ) → PicksMinByKey (YieldsFirst (λ s. s)) g nat_cmp s asked r → r ≡ cheapest f arcs
  picked arcs s e all None (u, (t, given, end)) = ap (cheapest f) (sym (given ∙ end.0) ∙ e)
  picked arcs s e all (Some y) (x, xs, k, after, q, (u, (t, (j, first, given), end)), called, folds) =
      let list : x ∷ xs ≡ arcs = sym (gives s (x ∷ xs) t (j, first, given) ∙ ap (λ ys. x ∷ xs ++ ys) end.0 ∙ append-nil (x ∷ xs)) ∙ e in
      let there : (i z : ℕ) → slice_get (x ∷ xs) i ≡ Some z → P z = λ i z h. all i z (ap (λ ys. slice_get ys i) (sym list) ∙ h) in
      let w = is x k after (there 0 x refl) called in
      sym (turns xs x y q (λ i z h. there (suc i) z h) (subst (λ (p : F × ℕ). FoldsTo {P = (F × ℕ) × ℕ} Turn (p, x) xs (q, y)) (ap₂ (λ u v. (u, v)) w.1 w.0) folds)) ∙ ap (cheapest f) list
