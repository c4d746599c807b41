-- The eight arcs that leave a cell.
use Rattle.std.proofs.Common.{◌≡◌, ℕ, ◌+◌, ◌-◌, ◌*◌, ◌/◌, ◌<◌, Bool, true, false, cond, ◌&&◌, eqb, ltb, List, [], length, Some, None, Option, sym, refl, ap, ◌∙◌, inl, inr, arith}
use Rattle.std.proofs.lemmas.Bool.{eq-eqb, eqb-true, cases_lt, lt-ltb, le-ltb, cond-true, cond-false}
use Rattle.std.proofs.lemmas.Option.{slice_get_past}
use Rattle.std.specs.List.{slice_get, filter_map, range_with_len}
use Rattle.ground.proofs.ArcsAt.{arcs_at-beyond}
use Rattle.ground.proofs.Offered.{Offers, arcs_at-offered}
use Rattle.ground.specs.KnownLaws.{one_answer}
use Rattle.ground.specs.Questions.{arcs_at, arcs_from}
use Rattle.grid.specs.GridLaws.{by_direction}
use Rattle.grid.specs.Grids.{gridded}
use Rattle.grid.specs.declared.grid.Grid.{Grid}

-- the candidates: the cell's own arcs
abbrev own : ℕ → ℕ → Option ℕ
own p d = Some (8 * p + d)

abbrev eight : ℕ → List ℕ
eight p = filter_map (own p) (range_with_len 0 8)

own_offers : (cells p : ℕ) → p < cells → Offers (λ j. eqb (j / 8) p) (own p) 8 (8 * cells)
own_offers cells p h = record {
  rising = λ i k x y l m e f. omega (arith, one_answer (own p i) (8 * p + i) x refl e, one_answer (own p k) (8 * p + k) y refl f);
  within = λ i x l e. omega (arith, one_answer (own p i) (8 * p + i) x refl e);
  passing = λ i x l e. eq-eqb (x / 8) p (omega (arith, one_answer (own p i) (8 * p + i) x refl e));
  whole = λ j l t. let e : j / 8 ≡ p = eqb-true (j / 8) p t in (j - 8 * p, omega arith, ap Some (omega arith));
}

leaving_are : (cells p : ℕ) → arcs_at (λ j. j / 8) (8 * cells) p ≡ cond (ltb p cells) (eight p) []
leaving_are cells p = elim (cases_lt p cells) [
  | inl h ↦ arcs_at-offered (λ j. j / 8) (own p) 8 (8 * cells) p (own_offers cells p h) ∙ sym (cond-true (ltb p cells) (eight p) [] (lt-ltb p cells h))
  | inr h ↦ arcs_at-beyond (λ j. j / 8) (8 * cells) cells p (λ j l. omega arith) h ∙ sym (cond-false (ltb p cells) (eight p) [] (le-ltb p cells h))
]

eighth : (b : Bool) (p k : ℕ) → slice_get (cond b (eight p) []) k ≡ cond (b && ltb k 8) (Some (8 * p + k)) None
eighth false p k = refl
eighth true p k = elim (cases_lt k 8) [
  | inl h ↦ by_direction (λ k. slice_get (eight p) k ≡ Some (8 * p + k)) refl refl refl refl refl refl refl refl k h ∙ sym (cond-true (ltb k 8) (Some (8 * p + k)) None (lt-ltb k 8 h))
  | inr h ↦ slice_get_past (eight p) k h ∙ sym (cond-false (ltb k 8) (Some (8 * p + k)) None (le-ltb k 8 h))
]

how_many : (b : Bool) (p : ℕ) → length (cond b (eight p) []) ≡ cond b 8 0
how_many false p = refl
how_many true p = refl

-- the k-th of them, and how many they are
pub leaving_at : (g : Grid) (p k : ℕ) → slice_get (arcs_from (gridded g.rows g.columns g.base) p) k ≡ cond (ltb p (g.rows * g.columns) && ltb k 8) (Some (8 * p + k)) None
leaving_at g p k = ap (λ xs. slice_get xs k) (leaving_are (g.rows * g.columns) p) ∙ eighth (ltb p (g.rows * g.columns)) p k

pub leaving_count : (g : Grid) (p : ℕ) → length (arcs_from (gridded g.rows g.columns g.base) p) ≡ cond (ltb p (g.rows * g.columns)) 8 0
leaving_count g p = ap length (leaving_are (g.rows * g.columns) p) ∙ how_many (ltb p (g.rows * g.columns)) p
