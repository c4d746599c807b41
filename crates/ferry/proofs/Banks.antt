-- The one arc from a bank, and the one to it.
use Rattle.std.proofs.Common.{◌≡◌, ℕ, zero, suc, ◌-◌, ◌≤◌, Bool, true, false, cond, ◌&&◌, ltb, eqb, length, List, [], ◌∷◌, Some, None, sym, refl, ap, ◌∙◌, arith}
use Rattle.std.proofs.lemmas.Bool.{cond-false, le-ltb, ne_eqb}
use Rattle.std.specs.List.{slice_get}
use Rattle.ground.proofs.ArcsAt.{arcs_at-beyond}
use Rattle.ground.specs.Questions.{arcs_at, arcs_from, arcs_into}
use Rattle.ferry.specs.Ferries.{crossing, crossing_lawful}

-- a list of one where p is a bank
abbrev one : ℕ → ℕ → List ℕ
one p x = cond (ltb p 2) (x ∷ []) []

nowhere : (p x : ℕ) (xs : List ℕ) → 2 ≤ p → xs ≡ [] → xs ≡ one p x
nowhere p x xs h e = e ∙ sym (cond-false (ltb p 2) (x ∷ []) [] (le-ltb p 2 h))

from_bank : (p : ℕ) → arcs_from crossing p ≡ one p p
unfolding arcs_at
from_bank zero = refl
from_bank (suc zero) = refl
from_bank (suc (suc p)) = nowhere _ _ _ (omega arith) (arcs_at-beyond crossing.tail 2 2 (suc (suc p)) crossing_lawful.tail_in (omega arith))

to_bank : (p : ℕ) → arcs_into crossing p ≡ one p (1 - p)
unfolding arcs_at
to_bank zero = refl
to_bank (suc zero) = refl
to_bank (suc (suc p)) = nowhere _ _ _ (omega arith) (arcs_at-beyond crossing.head 2 2 (suc (suc p)) crossing_lawful.head_in (omega arith))

one_at : (b : Bool) (x k : ℕ) → slice_get (cond b (x ∷ []) []) k ≡ cond (b && eqb k 0) (Some x) None
one_at true x zero = refl
one_at true x (suc k) = sym (cond-false (eqb (suc k) 0) (Some x) None (ne_eqb (suc k) 0 (λ e. omega arith)))
one_at false x k = refl

one_long : (b : Bool) (x : ℕ) → length (cond b (x ∷ []) []) ≡ cond b 1 0
one_long true x = refl
one_long false x = refl

pub arc_from_bank : (p k : ℕ) → slice_get (arcs_from crossing p) k ≡ cond (ltb p 2 && eqb k 0) (Some p) None
arc_from_bank p k = ap (λ xs. slice_get xs k) (from_bank p) ∙ one_at (ltb p 2) p k

pub arc_to_bank : (p k : ℕ) → slice_get (arcs_into crossing p) k ≡ cond (ltb p 2 && eqb k 0) (Some (1 - p)) None
arc_to_bank p k = ap (λ xs. slice_get xs k) (to_bank p) ∙ one_at (ltb p 2) (1 - p) k

pub count_from_bank : (p : ℕ) → length (arcs_from crossing p) ≡ cond (ltb p 2) 1 0
count_from_bank p = ap length (from_bank p) ∙ one_long (ltb p 2) p

pub count_to_bank : (p : ℕ) → length (arcs_into crossing p) ≡ cond (ltb p 2) 1 0
count_to_bank p = ap length (to_bank p) ∙ one_long (ltb p 2) (1 - p)
