-- A walk over a list by the numbers of its elements. Assumes nothing.
use Rattle.std.proofs.Common.{◌≡◌, ℕ, zero, suc, ◌+◌, ◌<◌, List, [], ◌∷◌, length, drop, Some, None, refl, ap, ◌∙◌, arith}
use Rattle.std.specs.List.{slice_get}

-- what is left of a list from its k-th element on
pub drop_at : (xs : List ℕ) (k x : ℕ) → slice_get xs k ≡ Some x → (k < length xs) × (drop k xs ≡ x ∷ drop (k + 1) xs)
drop_at [] k x e = cc
drop_at (y ∷ ys) zero x e = (omega arith, cc)
drop_at (y ∷ ys) (suc k) x e =
    let w = drop_at ys k x e in
    let s : suc (k + 1) ≡ suc k + 1 = omega arith in
    (omega arith, w.1 ∙ ap (λ z. x ∷ drop z (y ∷ ys)) s)

pub drop_past : (xs : List ℕ) (k : ℕ) → slice_get xs k ≡ None → drop k xs ≡ []
drop_past [] zero e = refl
drop_past [] (suc k) e = refl
drop_past (y ∷ ys) zero e = cc
drop_past (y ∷ ys) (suc k) e = drop_past ys k e
