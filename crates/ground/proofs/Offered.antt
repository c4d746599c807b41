-- A filter that is met by trying candidates in turn: what they offer is what it keeps.
use Rattle.std.proofs.Common.{◌≡◌, ℕ, zero, suc, ◌+◌, ◌-◌, ◌<◌, ◌≤◌, Bool, true, false, eqb, ◌⊎◌, ◌∷◌, ◌++◌, Some, None, filter, Option, sym, refl, ap, ◌∙◌, inl, inr, arith}
use Rattle.std.proofs.lemmas.List.Elements.{filter-append}
use Rattle.std.proofs.lemmas.Bool.{cases_Bool, cases_eq, cond-true}
use Rattle.std.specs.List.{range_with_len, filter_map, cons_option}
use Rattle.ground.specs.Questions.{arcs_at}
use Rattle.ground.specs.KnownLaws.{not_both, one_answer}
use Rattle.ground.proofs.ArcsAt.{counting_append, kept_none}

-- Candidates that offer rising numbers, all of them passing, and each that passes, offer what a filter keeps.
pub record Offers (test : ℕ → Bool) (c : ℕ → Option ℕ) (n m : ℕ) : Type 0 where
  pub rising : (i k x y : ℕ) → i < k → k < n → c i ≡ Some x → c k ≡ Some y → x < y
  pub within : (i x : ℕ) → i < n → c i ≡ Some x → x < m
  pub passing : (i x : ℕ) → i < n → c i ≡ Some x → test x ≡ true
  pub whole : (j : ℕ) → j < m → test j ≡ true → (i : ℕ) × (i < n) × (c i ≡ Some j)

module _ (test : ℕ → Bool) (c : ℕ → Option ℕ) (n m : ℕ) (o : Offers test c n m) where
  -- what the candidates from i on offer is not below a
  abbrev Low : ℕ → ℕ → Type 0
  Low i a = (h x : ℕ) → i ≤ h → h < n → c h ≡ Some x → a ≤ x

  -- what passes from a on is offered by the candidates from i on
  abbrev Here : ℕ → ℕ → Type 0
  Here i a = (j : ℕ) → a ≤ j → j < m → test j ≡ true → (h : ℕ) × (i ≤ h) × (h < n) × (c h ≡ Some j)

  abbrev Kept : ℕ → ℕ → Type 0
  Kept i k = (a b : ℕ) → i + k ≡ n → a + b ≡ m → Low i a → Here i a → filter test (range_with_len a b) ≡ filter_map c (range_with_len i k)

  passed_by : (i : ℕ) → c i ≡ None → (a : ℕ) → Here i a → Here (i + 1) a
  passed_by i none a here j l h t =
      let w = here j l h t in
      let later : i + 1 ≤ w.0 = elim (cases_eq w.0 i) [ inl e ↦ absurd (not_both (c i) j (ap c (sym e) ∙ w.3) none) | inr ne ↦ omega arith ] in
      (w.0, later, w.2, w.3)

  taken : (i x : ℕ) → c i ≡ Some x → i < n → (a : ℕ) → Here i a → (j : ℕ) → a ≤ j → j < m → test j ≡ true → (j ≡ x) ⊎ ((h : ℕ) × (i + 1 ≤ h) × (h < n) × (c h ≡ Some j) × (x < j))
  taken i x some lt a here j l h t =
      let w = here j l h t in
      elim (cases_eq w.0 i) [ inl e ↦ inl (one_answer (c i) j x (ap c (sym e) ∙ w.3) some) | inr ne ↦ (let later : i < w.0 = omega arith in inr (w.0, omega arith, w.2, w.3, o.rising i w.0 x j later w.2 some w.3)) ]

  offered_next : (i k : ℕ) → Kept (i + 1) k → (v : Option ℕ) → c i ≡ v → (a b : ℕ) → i + suc k ≡ n → a + b ≡ m → Low i a → Here i a → filter test (range_with_len a b) ≡ cons_option v (filter_map c (range_with_len (i + 1) k))
  offered_next i k rest None v a b e f low here = rest a b (omega arith) f (λ h x l. low h x (omega arith)) (passed_by i v a here)
  offered_next i k rest (Some x) v a b e f low here =
      let lt : i < n = omega arith in
      let from : a ≤ x = low i x (omega arith) lt v in
      let under : x < m = o.within i x lt v in
      let d : b ≡ x - a + suc (m - (x + 1)) = omega arith in
      let s : a + (x - a) ≡ x = omega arith in
      ap (λ l. filter test (range_with_len a l)) d
      ∙ ap (filter test) (counting_append a (x - a) (suc (m - (x + 1))))
      ∙ filter-append test (range_with_len a (x - a)) (range_with_len (a + (x - a)) (suc (m - (x + 1))))
      ∙ ap (λ l. l ++ filter test (range_with_len (a + (x - a)) (suc (m - (x + 1))))) (kept_none test a (x - a) before)
      ∙ ap (λ z. filter test (range_with_len z (suc (m - (x + 1))))) s
      ∙ cond-true (test x) (x ∷ filter test (range_with_len (x + 1) (m - (x + 1)))) (filter test (range_with_len (x + 1) (m - (x + 1)))) (o.passing i x lt v)
      ∙ ap (λ l. x ∷ l) (rest (x + 1) (m - (x + 1)) (omega arith) (omega arith) above after)
    where
      before : (j : ℕ) → a ≤ j → j < a + (x - a) → test j ≡ false
      before j l h = elim (cases_Bool (test j)) [ inl t ↦ (let under : x < m = o.within i x (omega arith) v in let w = taken i x v (omega arith) a here j l (omega arith) t in absurd (elim w [ inl e ↦ omega arith | inr w ↦ omega arith ])) | inr t ↦ t ]

      above : Low (i + 1) (x + 1)
      above h y l g e = let r : x < y = o.rising i h x y (omega arith) g v e in omega arith

      after : Here (i + 1) (x + 1)
      after j l h t = let from : a ≤ x = low i x (omega arith) (omega arith) v in let w = taken i x v (omega arith) a here j (omega arith) h t in elim w [ inl e ↦ absurd (omega arith) | inr w ↦ (w.0, w.1, w.2, w.3) ]

  offered_kept : (k i : ℕ) → Kept i k
  offered_kept zero i a b e f low here =
      kept_none test a b (λ j l h. elim (cases_Bool (test j)) [ inl t ↦ (let w = here j l (omega arith) t in absurd (omega arith)) | inr t ↦ t ])
  offered_kept (suc k) i a b e f low here = offered_next i k (offered_kept k (i + 1)) (c i) refl a b e f low here

  pub kept_offered : filter test (range_with_len 0 m) ≡ filter_map c (range_with_len 0 n)
  kept_offered = offered_kept n 0 0 m (omega arith) (omega arith) (λ h x l g e. omega arith) (λ j l h t. let w = o.whole j h t in (w.0, omega arith, w.1, w.2))

-- the arcs at a place, as the candidates for them offer them
pub arcs_at-offered : (end : ℕ → ℕ) (c : ℕ → Option ℕ) (n m p : ℕ) → Offers (λ j. eqb (end j) p) c n m → arcs_at end m p ≡ filter_map c (range_with_len 0 n)
unfolding arcs_at
arcs_at-offered end c n m p o = kept_offered (λ j. eqb (end j) p) c n m o
