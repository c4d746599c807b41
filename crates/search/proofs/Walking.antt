-- A walk over a list by the numbers of its elements. Assumes nothing.
use Rattle.std.proofs.Common.{◌≡◌, ℕ, zero, suc, ◌+◌, ◌<◌, ◌≤◌, min, Bool, ltb, List, [], ◌∷◌, map, drop, Some, None, Option, sym, refl, ap, ap₂, ◌∙◌, inl, inr, arith}
use Rattle.ground.specs.KnownLaws.{not_both}
use Rattle.method.specs.Choices.{better}
use Rattle.method.specs.Values.{smallest}
use Rattle.ground.specs.Meanings.{Meaning}
use Rattle.ground.specs.Questions.{arcs_from}
use Rattle.ground.proofs.ArcsAt.{arcs_at-at}
use Rattle.search.specs.declared.place.Place.{Place}
use Rattle.search.specs.Tables.{offer_of, offered}
use Rattle.std.proofs.lemmas.Bool.{cases_lt, cond-true, cond-false, lt-ltb, le-ltb}
use Rattle.std.specs.List.{slice_get, fold, reduce}
use Rattle.std.specs.Option.{unwrap_or}
use Rattle.terms.specs.Amounts.{far}

pub nth_past_all : (xs : List ℕ) (k i x : ℕ) → slice_get xs k ≡ None → slice_get xs i ≡ Some x → i < k
nth_past_all [] k i x e f = absurd (not_both None x f refl)
nth_past_all (y ∷ ys) zero i x e f = absurd (not_both (Some y) y refl e)
nth_past_all (y ∷ ys) (suc k) zero x e f = omega arith
nth_past_all (y ∷ ys) (suc k) (suc i) x e f = let l = nth_past_all ys k i x e f in omega arith

at_drop : (xs : List ℕ) (k x : ℕ) (rest : List ℕ) → drop k xs ≡ x ∷ rest → (slice_get xs k ≡ Some x) × (rest ≡ drop (k + 1) xs)
at_drop [] zero x rest e = absurd (cc)
at_drop [] (suc k) x rest e = absurd (cc)
at_drop (y ∷ ys) zero x rest e = (ap Some (let h : y ≡ x = cc in h), (let t : rest ≡ ys = cc in t))
at_drop (y ∷ ys) (suc k) x rest e = let w = at_drop ys k x rest e in (w.0, w.1 ∙ ap (λ z. drop z (y ∷ ys)) (let s : suc (k + 1) ≡ suc k + 1 = omega arith in s))

past_drop : (xs : List ℕ) (k : ℕ) → drop k xs ≡ [] → slice_get xs k ≡ None
past_drop [] zero e = refl
past_drop [] (suc k) e = refl
past_drop (y ∷ ys) zero e = absurd (cc)
past_drop (y ∷ ys) (suc k) e = past_drop ys k e

-- the list left after k of them, by its first and its end
module _ (xs left : List ℕ) (k : ℕ) (is : left ≡ drop k xs) where
  pub next_left : (x : ℕ) (rest : List ℕ) → left ≡ x ∷ rest → (slice_get xs k ≡ Some x) × (rest ≡ drop (k + 1) xs)
  next_left x rest e = at_drop xs k x rest (sym is ∙ e)

  pub none_left : left ≡ [] → slice_get xs k ≡ None
  none_left e = past_drop xs k (sym is ∙ e)

-- the smallest of amounts, by the least of all and Far
fold_smallest : (xs : List ℕ) (x : ℕ) → x ≤ far → fold min x xs ≡ min x (smallest xs)
fold_smallest [] x h = omega arith
fold_smallest (y ∷ ys) x h = fold_smallest ys (min x y) (omega arith) ∙ (omega arith)

least_smallest : (f : ℕ → ℕ) → ((x : ℕ) → f x ≤ far) → (xs : List ℕ) → unwrap_or (reduce min (map f xs)) far ≡ smallest (map f xs)
least_smallest f h [] = refl
least_smallest f h (x ∷ xs) = fold_smallest (map f xs) (f x) (h x)

map_there : (f h : ℕ → ℕ) (xs : List ℕ) → ((k x : ℕ) → slice_get xs k ≡ Some x → f x ≡ h x) → map f xs ≡ map h xs
map_there f h [] e = refl
map_there f h (x ∷ xs) e = ap₂ (λ y ys. y ∷ ys) (e 0 x refl) (map_there f h xs (λ k z i. e (suc k) z i))

-- the best so far and the best of what is left
module _ (f : ℕ → ℕ) where
  abbrev pub Beats : ℕ → ℕ → Bool
  Beats i j = ltb (f i) (f j)

  -- the later one takes the place of the best so far
  pub better_taken : (p x : ℕ) (rest : Option ℕ) → f x < f p → better Beats p (better Beats x rest) ≡ better Beats x rest
  better_taken p x None h = cond-true (ltb (f x) (f p)) (Some x) (Some p) (lt-ltb _ _ h)
  better_taken p x (Some q) h = elim (cases_lt (f q) (f x)) [
    | inl l ↦ rw (lt-ltb (f q) (f x) l) (cond-true (ltb (f q) (f p)) (Some q) (Some p) (lt-ltb _ _ (omega arith)))
    | inr l ↦ rw (le-ltb (f q) (f x) l) (cond-true (ltb (f x) (f p)) (Some x) (Some p) (lt-ltb _ _ h))
  ]

  pub better_kept : (p x : ℕ) (rest : Option ℕ) → f p ≤ f x → better Beats p (better Beats x rest) ≡ better Beats p rest
  better_kept p x None h = cond-false (ltb (f x) (f p)) (Some x) (Some p) (le-ltb _ _ h)
  better_kept p x (Some q) h = elim (cases_lt (f q) (f x)) [
    | inl l ↦ rw (lt-ltb (f q) (f x) l)
    | inr l ↦ rw (le-ltb (f q) (f x) l) (cond-false (ltb (f x) (f p)) (Some x) (Some p) (le-ltb _ _ h) ∙ sym (cond-false (ltb (f q) (f p)) (Some q) (Some p) (le-ltb _ _ (omega arith))))
  ]

-- what the arcs that leave a place offer at best, where Far stands for no arc
pub smallest_offer : (m : Meaning) (costs : List ℕ) (places : List Place) (p : ℕ) → unwrap_or (reduce min (map (offer_of m costs places) (arcs_from m p))) far ≡ smallest (map (offered m costs places) (arcs_from m p))
smallest_offer m costs places p =
    ap (λ xs. unwrap_or (reduce min xs) far) (map_there (offer_of m costs places) (offered m costs places) (arcs_from m p) (λ k x e. cond-true (ltb x m.arcs) (offered m costs places x) far (lt-ltb x m.arcs (arcs_at-at m.tail m.arcs p k x e).0)))
    ∙ least_smallest (offered m costs places) (λ x. omega arith) (arcs_from m p)

-- the same of the smallest itself
pub smallest_offers : (m : Meaning) (costs : List ℕ) (places : List Place) (p : ℕ) → smallest (map (offer_of m costs places) (arcs_from m p)) ≡ smallest (map (offered m costs places) (arcs_from m p))
smallest_offers m costs places p = ap smallest (map_there (offer_of m costs places) (offered m costs places) (arcs_from m p) (λ k x e. cond-true (ltb x m.arcs) (offered m costs places x) far (lt-ltb x m.arcs (arcs_at-at m.tail m.arcs p k x e).0)))
