-- Laws of the arcs at a place, for either end.
use Rattle.std.proofs.Common.{◌≡◌, ℕ, zero, suc, ◌+◌, ◌<◌, ◌≤◌, Bool, true, false, cond, eqb, List, [], ◌∷◌, ◌++◌, map, length, Some, filter, sym, refl, ap, ◌∙◌, inl, inr, add-zero, zero-add, arith}
use Rattle.std.proofs.lemmas.List.Elements.{filter-append, All-filter, filter_passes}
use Rattle.std.proofs.lemmas.List.FromFn.{get_or-range_with_len, length-range_with_len}
use Rattle.std.proofs.lemmas.List.Sums.{length-filter, count_by-le-length}
use Rattle.std.proofs.lemmas.Bool.{cases_eq, ne_eqb, eq-eqb, eqb-true, false≢true}
use Rattle.std.proofs.lemmas.Option.{get_or_from_slice_get, slice_get_within}
use Rattle.std.specs.List.{All, range_with_len, slice_get, slice_index_or}
use Rattle.ground.specs.Questions.{arcs_at}

pub counting_append : (a n k : ℕ) → range_with_len a (n + k) ≡ range_with_len a n ++ range_with_len (a + n) k
counting_append a zero k = rw (zero-add, add-zero)
counting_append a (suc n) k =
    let e : suc n + k ≡ suc (n + k) = omega arith in
    let f : a + 1 + n ≡ a + suc n = omega arith in
    rw e (ap (λ xs. a ∷ xs) (counting_append (a + 1) n k ∙ ap (λ b. range_with_len (a + 1) n ++ range_with_len b k) f))

-- two tests that agree from a on, n numbers far, keep the same
pub kept_same : (p q : ℕ → Bool) (a n : ℕ) → ((j : ℕ) → a ≤ j → j < a + n → p j ≡ q j) → filter p (range_with_len a n) ≡ filter q (range_with_len a n)
kept_same p q a zero same = refl
kept_same p q a (suc n) same =
    ap (λ b. cond b (a ∷ filter p (range_with_len (a + 1) n)) (filter p (range_with_len (a + 1) n))) (same a (omega arith) (omega arith))
    ∙ ap (λ xs. cond (q a) (a ∷ xs) xs) (kept_same p q (a + 1) n (λ j l h. same j (omega arith) (omega arith)))

pub kept_none : (p : ℕ → Bool) (a n : ℕ) → ((j : ℕ) → a ≤ j → j < a + n → p j ≡ false) → filter p (range_with_len a n) ≡ []
kept_none p a zero none = refl
kept_none p a (suc n) none =
    ap (λ b. cond b (a ∷ filter p (range_with_len (a + 1) n)) (filter p (range_with_len (a + 1) n))) (none a (omega arith) (omega arith))
    ∙ kept_none p (a + 1) n (λ j l h. none j (omega arith) (omega arith))

pub kept_raised : (p : ℕ → Bool) (by a n : ℕ) → filter p (range_with_len (by + a) n) ≡ map (λ j. by + j) (filter (λ j. p (by + j)) (range_with_len a n))
kept_raised p by a zero = refl
kept_raised p by a (suc n) =
    let e : by + a + 1 ≡ by + (a + 1) = omega arith in
    ap (λ b. cond (p (by + a)) ((by + a) ∷ filter p (range_with_len b n)) (filter p (range_with_len b n))) e
    ∙ ap (λ xs. cond (p (by + a)) ((by + a) ∷ xs) xs) (kept_raised p by (a + 1) n)
    ∙ out (p (by + a)) (filter (λ j. p (by + j)) (range_with_len (a + 1) n))
  where
    out : (b : Bool) (xs : List ℕ) → cond b ((by + a) ∷ map (λ j. by + j) xs) (map (λ j. by + j) xs) ≡ map (λ j. by + j) (cond b (a ∷ xs) xs)
    out true xs = refl
    out false xs = refl

-- the arcs of two stretches are those of the first and then those of the second
pub arcs_at-append : (end : ℕ → ℕ) (a b p : ℕ) → arcs_at end (a + b) p ≡ arcs_at end a p ++ map (λ j. a + j) (arcs_at (λ j. end (a + j)) b p)
unfolding arcs_at
arcs_at-append end a b p =
    let t : ℕ → Bool = λ j. eqb (end j) p in
    let z : 0 + a ≡ a + 0 = omega arith in
    ap (filter t) (counting_append 0 a b)
    ∙ filter-append t (range_with_len 0 a) (range_with_len (0 + a) b)
    ∙ ap (λ s. filter t (range_with_len 0 a) ++ filter t (range_with_len s b)) z
    ∙ ap (λ xs. filter t (range_with_len 0 a) ++ xs) (kept_raised t a 0 b)

pub arcs_at-same : (end end' : ℕ → ℕ) (m p p' : ℕ) → ((j : ℕ) → j < m → eqb (end j) p ≡ eqb (end' j) p') → arcs_at end m p ≡ arcs_at end' m p'
unfolding arcs_at
arcs_at-same end end' m p p' same = kept_same (λ j. eqb (end j) p) (λ j. eqb (end' j) p') 0 m (λ j l h. same j (omega arith))

pub arcs_at-none : (end : ℕ → ℕ) (m p : ℕ) → ((j : ℕ) → j < m → end j ≡ p → ⊥) → arcs_at end m p ≡ []
unfolding arcs_at
arcs_at-none end m p none = kept_none (λ j. eqb (end j) p) 0 m (λ j l h. ne_eqb (end j) p (none j (omega arith)))

-- no arc is at a place that the ground lacks
pub arcs_at-beyond : (end : ℕ → ℕ) (m n p : ℕ) → ((j : ℕ) → j < m → end j < n) → n ≤ p → arcs_at end m p ≡ []
arcs_at-beyond end m n p inside beyond = arcs_at-none end m p (λ j h e. omega (arith, inside j h))

-- a number that passes is kept
kept_has : (t : ℕ → Bool) (a n j : ℕ) → a ≤ j → j < a + n → t j ≡ true → (k : ℕ) × (k < length (filter t (range_with_len a n))) × (slice_get (filter t (range_with_len a n)) k ≡ Some j)
kept_has t a zero j l h e = absurd (omega arith)
kept_has t a (suc n) j l h e =
    elim (cases_eq a j) [ inl s ↦ at (t a) (ap t s ∙ e) s | inr ne ↦ past (t a) (kept_has t (a + 1) n j (omega arith) (omega arith) e) ]
  where
    rest : List ℕ
    rest = filter t (range_with_len (a + 1) n)

    Found : List ℕ → Type 0
    Found xs = (k : ℕ) × (k < length xs) × (slice_get xs k ≡ Some j)

    at : (b : Bool) → b ≡ true → a ≡ j → Found (cond b (a ∷ rest) rest)
    at true p s = (0, omega arith, ap Some s)
    at false p s = absurd (false≢true p)

    past : (b : Bool) → Found rest → Found (cond b (a ∷ rest) rest)
    past true w = (suc w.0, omega (arith, w.1), w.2)
    past false w = w

pub arcs_at-few : (end : ℕ → ℕ) (m p : ℕ) → length (arcs_at end m p) ≤ m
unfolding arcs_at
arcs_at-few end m p =
    let t : ℕ → Bool = λ j. eqb (end j) p in
    omega (arith, length-filter t (range_with_len 0 m), count_by-le-length t (range_with_len 0 m), length-range_with_len 0 m)

-- the arcs that are listed at a place are there
pub arcs_are_there : (end : ℕ → ℕ) (m p k d : ℕ) → k < length (arcs_at end m p) → slice_index_or (arcs_at end m p) k d < m
unfolding arcs_at
arcs_are_there end m p =
    let below : All (λ j. j < m) (range_with_len 0 m) = λ i d h. omega (arith, length-range_with_len 0 m, get_or-range_with_len 0 m i d) in
    All-filter (λ j. eqb (end j) p) (λ j. j < m) (range_with_len 0 m) below

pub arcs_at-at : (end : ℕ → ℕ) (m p k j : ℕ) → slice_get (arcs_at end m p) k ≡ Some j → (j < m) × (end j ≡ p)
unfolding arcs_at
arcs_at-at end m p k j e =
    let xs = arcs_at end m p in
    let there = slice_get_within xs k j e in
    let is = get_or_from_slice_get xs k j j e in
    let passes = filter_passes (λ j. eqb (end j) p) (range_with_len 0 m) k j there in
    (omega (arith, arcs_are_there end m p k j there), eqb-true (end j) p (ap (λ j. eqb (end j) p) (sym is) ∙ passes))

-- an arc that is there is listed
pub arcs_at-has : (end : ℕ → ℕ) (m p j : ℕ) → j < m → end j ≡ p → (k : ℕ) × (k < length (arcs_at end m p)) × (slice_get (arcs_at end m p) k ≡ Some j)
unfolding arcs_at
arcs_at-has end m p j h e = kept_has (λ j. eqb (end j) p) 0 m j (omega arith) (omega arith) (eq-eqb (end j) p e)
