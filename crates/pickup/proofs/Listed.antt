-- The arcs at a place of a layer: the copies of those below, and then the pick-up where it is one of them.
use Rattle.std.proofs.Common.{◌≡◌, ℕ, zero, suc, ◌+◌, ◌-◌, ◌*◌, ◌<◌, ◌≤◌, Bool, true, false, cond, ◌&&◌, eqb, ltb, List, [], ◌∷◌, ◌++◌, map, length, Some, None, sym, refl, ap, ◌∙◌, ap₂, inl, inr, arith}
use mir.Val.{bool_byte}
use Rattle.std.proofs.lemmas.List.{map-append, length-append, length-map}
use Rattle.std.proofs.lemmas.Bool.{cases_lt, cases_eq, lt-ltb, le-ltb, eq-eqb, ne_eqb, cond-true, cond-false, false≢true}
use Rattle.std.specs.List.{slice_get}
use Rattle.ground.proofs.ArcsAt.{arcs_at-append, arcs_at-same, arcs_at-none, arcs_at-beyond}
use Rattle.ground.proofs.EndLaws.{end_in}
use Rattle.ground.specs.KnownLaws.{known_there, known_absent}
use Rattle.ground.specs.Meanings.{Meaning, Lawful}
use Rattle.ground.specs.Ends.{end_of, arcs_by}
use Rattle.ground.specs.Questions.{known, arcs_at}
use Rattle.ground.specs.declared.end.End.{End}
use Rattle.ground.specs.declared.end.End.TheVariants.{Tail, Head}
use Rattle.pickup.specs.LayerLaws.{copied_before, copied_after, copied_own, lowered_before, lowered_after, fitting}
use Rattle.pickup.specs.Layers.{fits, crossings, copied, lowered, layered}
use Rattle.pickup.specs.Parts.{crossing_end}

-- one more arc, where there is one
abbrev pub extra : Bool → ℕ → List ℕ
extra here j = cond here (j ∷ []) []

-- a list of copies and then perhaps one more, by its length and by its places
pub length_more : (f : ℕ → ℕ) (xs : List ℕ) (here : Bool) (j : ℕ) → length (map f xs ++ extra here j) ≡ length xs + cond here 1 0
length_more f xs true j = length-append (map f xs) (j ∷ []) ∙ omega (arith, length-map xs f)
length_more f xs false j = length-append (map f xs) [] ∙ omega (arith, length-map xs f)

-- a flag as a number
pub byte_is : (t : Bool) → (bool_byte t ≡ cond t 1 0) × (bool_byte t ≤ 1)
byte_is true = (refl, omega arith)
byte_is false = (refl, omega arith)

pub nth_copy : (f : ℕ → ℕ) (xs : List ℕ) (here : Bool) (j k x : ℕ) → slice_get xs k ≡ Some x → slice_get (map f xs ++ extra here j) k ≡ Some (f x)
nth_copy f [] here j k x e = cc
nth_copy f (y ∷ xs) here j zero x e = cc
nth_copy f (y ∷ xs) here j (suc k) x e = nth_copy f xs here j k x e

pub nth_last : (f : ℕ → ℕ) (xs : List ℕ) (j k : ℕ) → k ≡ length xs → slice_get (map f xs ++ extra true j) k ≡ Some j
nth_last f [] j k e = ap (slice_get (j ∷ [])) e
nth_last f (y ∷ xs) j k e = ap (slice_get (f y ∷ map f xs ++ extra true j)) e ∙ nth_last f xs j (length xs) refl

pub nth_past_last : (f : ℕ → ℕ) (xs : List ℕ) (here : Bool) (j k : ℕ) → slice_get xs k ≡ None → (here ≡ true → k ≡ length xs → ⊥) → slice_get (map f xs ++ extra here j) k ≡ None
nth_past_last f [] true j zero e h = absurd (h refl refl)
nth_past_last f [] true j (suc k) e h = refl
nth_past_last f [] false j k e h = refl
nth_past_last f (y ∷ xs) here j zero e h = cc
nth_past_last f (y ∷ xs) here j (suc k) e h = nth_past_last f xs here j k e (λ t i. h t (ap suc i))

pub nth_extra : (f : ℕ → ℕ) (xs : List ℕ) (here : Bool) (j k : ℕ) → slice_get xs k ≡ None → slice_get (map f xs ++ extra here j) k ≡ known (here && eqb k (length xs)) j
nth_extra f xs true j k e =
    elim (cases_eq k (length xs)) [
      | inl s ↦ nth_last f xs j k s ∙ sym (known_there (eqb k (length xs)) j (eq-eqb k (length xs) s))
      | inr ne ↦ nth_past_last f xs true j k e (λ _ s. ne s) ∙ sym (known_absent (eqb k (length xs)) j (ne_eqb k (length xs) ne))
    ]
nth_extra f xs false j k e = nth_past_last f xs false j k e (λ t s. false≢true t)

module _ (b : Meaning) (q : ℕ) (end : ℕ → ℕ) (own : ℕ) (inside : (j : ℕ) → j < b.arcs → end j < b.places) where
  abbrev pub layer_end : ℕ → ℕ
  layer_end = copied b.arcs end (λ j. b.places + end j) own

  -- the arcs of the ground below, among those of the layer
  first_copy : (p : ℕ) → arcs_at layer_end b.arcs p ≡ arcs_at end b.arcs p
  first_copy p = arcs_at-same layer_end end b.arcs p p (λ j h. ap (λ z. eqb z p) (copied_before b.arcs end (λ j. b.places + end j) own j h))

  second_copy : (p : ℕ) → arcs_at (λ j. layer_end (b.arcs + j)) b.arcs p ≡ arcs_at (λ j. b.places + end j) b.arcs p
  second_copy p = arcs_at-same (λ j. layer_end (b.arcs + j)) (λ j. b.places + end j) b.arcs p p (λ j h. ap (λ z. eqb z p) (copied_after b.arcs end (λ j. b.places + end j) own j h))

  -- the pick-up's own, if there is one
  last_arc : (p : ℕ) → map (λ j. b.arcs + j) (map (λ j. b.arcs + j) (arcs_at (λ j. layer_end (b.arcs + (b.arcs + j))) (crossings b q) p)) ≡ extra (ltb q b.places && eqb own p) (2 * b.arcs)
  unfolding arcs_at
  last_arc p = at (ltb q b.places)
    where
      at : (t : Bool) → map (λ j. b.arcs + j) (map (λ j. b.arcs + j) (arcs_at (λ j. layer_end (b.arcs + (b.arcs + j))) (cond t 1 0) p)) ≡ extra (t && eqb own p) (2 * b.arcs)
      at true =
          let o : layer_end (b.arcs + (b.arcs + 0)) ≡ own = copied_own b.arcs end (λ j. b.places + end j) own (b.arcs + (b.arcs + 0)) (omega arith) in
          ap (λ z. map (λ j. b.arcs + j) (map (λ j. b.arcs + j) (extra (eqb z p) 0))) o ∙ out (eqb own p)
        where
          out : (t : Bool) → map (λ j. b.arcs + j) (map (λ j. b.arcs + j) (extra t 0)) ≡ extra t (2 * b.arcs)
          out true = let e : b.arcs + (b.arcs + 0) ≡ 2 * b.arcs = omega arith in ap (λ z. z ∷ []) e
          out false = refl
      at false = refl

  parts : (p : ℕ) → arcs_at layer_end (2 * b.arcs + crossings b q) p ≡ arcs_at end b.arcs p ++ (map (λ j. b.arcs + j) (arcs_at (λ j. b.places + end j) b.arcs p) ++ extra (ltb q b.places && eqb own p) (2 * b.arcs))
  parts p =
      let m = b.arcs in
      let x = crossings b q in
      let e : 2 * m + x ≡ m + (m + x) = omega arith in
      let up : ℕ → ℕ = λ j. m + j in
      ap (λ z. arcs_at layer_end z p) e
      ∙ arcs_at-append layer_end m (m + x) p
      ∙ ap₂ (λ xs ys. xs ++ map up ys) (first_copy p) (arcs_at-append (λ j. layer_end (m + j)) m x p)
      ∙ ap (λ xs. arcs_at end m p ++ xs) (map-append up (arcs_at (λ j. layer_end (m + j)) m p) (map up (arcs_at (λ j. layer_end (m + (m + j))) x p)))
      ∙ ap₂ (λ xs ys. arcs_at end m p ++ (map up xs ++ ys)) (second_copy p) (last_arc p)

  map_same : (xs : List ℕ) → map (λ j. 0 + j) xs ≡ xs
  map_same [] = refl
  map_same (x ∷ xs) = ap₂ (λ y ys. y ∷ ys) (omega arith) (map_same xs)

  pub listed : (p place first : ℕ) → place ≡ lowered b.places p → first ≡ cond (ltb p b.places) 0 b.arcs → arcs_at layer_end (2 * b.arcs + crossings b q) p ≡ map (λ j. first + j) (arcs_at end b.arcs place) ++ extra (ltb q b.places && eqb own p) (2 * b.arcs)
  listed p place first e f =
      let more = extra (ltb q b.places && eqb own p) (2 * b.arcs) in
      let n = b.places in
      let m = b.arcs in
      let up : ℕ → ℕ = λ j. m + j in
      parts p ∙ elim (cases_lt p n) [
        | inl h ↦ (let g : place ≡ p = e ∙ lowered_before n p h in
            let z : first ≡ 0 = f ∙ cond-true (ltb p n) 0 m (lt-ltb p n h) in
            ap (λ xs. arcs_at end m p ++ (map up xs ++ more)) (arcs_at-none (λ j. n + end j) m p (λ j k i. omega arith))
            ∙ ap (λ xs. xs ++ more) (sym (map_same (arcs_at end m p)))
            ∙ ap₂ (λ i a. map (λ j. i + j) (arcs_at end m a) ++ more) (sym z) (sym g))
        | inr h ↦ (let i : n + (p - n) ≡ p = omega arith in
            let g : place ≡ p - n = e ∙ ap (lowered n) (sym i) ∙ lowered_after n (p - n) in
            let z : first ≡ m = f ∙ cond-false (ltb p n) 0 m (le-ltb p n h) in
            ap (λ xs. xs ++ (map up (arcs_at (λ j. n + end j) m p) ++ more)) (arcs_at-beyond end m n p inside h)
            ∙ ap (λ xs. map up xs ++ more) (arcs_at-same (λ j. n + end j) end m p (p - n) (λ j k. same (end j) h))
            ∙ ap₂ (λ i a. map (λ j. i + j) (arcs_at end m a) ++ more) (sym z) (sym g))
      ]
    where
      same : (x : ℕ) → b.places ≤ p → eqb (b.places + x) p ≡ eqb x (p - b.places)
      same x h = elim (cases_eq x (p - b.places)) [
        | inl e ↦ eq-eqb (b.places + x) p (omega arith) ∙ sym (eq-eqb x (p - b.places) e)
        | inr e ↦ ne_eqb (b.places + x) p (λ i. e (omega arith)) ∙ sym (ne_eqb x (p - b.places) e)
      ]

-- the first arc of a copy is no higher than the arcs are many
pub first_few : (b : Meaning) (p first : ℕ) → first ≡ cond (ltb p b.places) 0 b.arcs → first ≤ b.arcs
first_few b p first e = at (ltb p b.places) e
  where
    at : (t : Bool) → first ≡ cond t 0 b.arcs → first ≤ b.arcs
    at true e = omega arith
    at false e = omega arith

-- the ends of the layer's arcs are made of those below
ends : (e : End) (b : Meaning) (q : ℕ) → end_of e (layered b q) ≡ copied b.arcs (end_of e b) (λ j. b.places + end_of e b j) (crossing_end e b q)
ends Tail b q = refl
ends Head b q = refl

module _ (e : End) (b : Meaning) (q : ℕ) (l : Lawful b) (p place first : ℕ) (h : p < (layered b q).places) (s : place ≡ lowered b.places p) (f : first ≡ cond (ltb p b.places) 0 b.arcs) where
  all_arcs : (layered b q).arcs ≡ 2 * b.arcs + crossings b q
  all_arcs = cond-true (fits b) (2 * b.arcs + crossings b q) 0 (fitting b q (2 * b.places) p h).0

  pub layer_at : arcs_by e (layered b q) p ≡ map (λ j. first + j) (arcs_by e b place) ++ extra (ltb q b.places && eqb (crossing_end e b q) p) (2 * b.arcs)
  layer_at = ap₂ (λ end m. arcs_at end m p) (ends e b q) all_arcs ∙ listed b q (end_of e b) (crossing_end e b q) (end_in e b l) p place first s f
