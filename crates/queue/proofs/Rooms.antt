-- There is room for a number below the table's length that is absent, where all held numbers are below it.
use Rattle.std.specs.declared.cmp.Ordering.{Ordering}
use Rattle.std.proofs.Common.{◌≡◌, ℕ, zero, suc, ◌<◌, true, cond, eqb, ◌⊎◌, List, length, get_or, Some, None, Option, sym, ap, ◌∙◌, subst, inl, inr, arith}
use Rattle.queue.specs.declared.entry.Entry.{Entry}
use Rattle.queue.specs.Calls.{Low}
use Rattle.queue.specs.Content.{items, key_of, held}
use Rattle.queue.specs.Sound.{under, Sound}
use Rattle.queue.proofs.Acts.{option_cases, only_one}
use Rattle.queue.proofs.Contents.{count_room, key_in-at, some_under}
use Rattle.queue.proofs.Contests.{length_items}
use Rattle.std.proofs.lemmas.Bool.{cases_eq, cond-true, cond-false, eq-eqb, ne_eqb}

-- no function from c + 1 places to c values tells all places apart
pub pigeons : (c : ℕ) (f : ℕ → ℕ) → ((i : ℕ) → i < suc c → f i < c) → ((i j : ℕ) → i < suc c → j < suc c → f i ≡ f j → i ≡ j) → ⊥
pigeons zero f small apart = let h = small 0 (omega arith) in omega arith
pigeons (suc c) f small apart = pigeons c g low apart'
  where
    -- the value c gives way to the value of the last place
    g : ℕ → ℕ
    g i = cond (eqb (f i) c) (f (suc c)) (f i)

    at : (i : ℕ) → ((f i ≡ c) × (g i ≡ f (suc c))) ⊎ ((f i ≡ c → ⊥) × (g i ≡ f i))
    at i = elim (cases_eq (f i) c) [ inl e ↦ inl (e, cond-true _ _ _ (eq-eqb (f i) c e)) | inr ne ↦ inr (ne, cond-false _ _ _ (ne_eqb (f i) c ne)) ]

    low : (i : ℕ) → i < suc c → g i < c
    low i h =
        let s = small i (omega arith) in
        let l = small (suc c) (omega arith) in
        elim (at i) [
          | inl a ↦ elim (cases_eq (f (suc c)) c) [ inl e ↦ absurd (let q = apart i (suc c) (omega arith) (omega arith) (a.0 ∙ sym e) in omega arith) | inr ne ↦ omega (arith, a.1) ]
          | inr a ↦ (let ne = a.0 in omega (arith, a.1))
        ]

    apart' : (i j : ℕ) → i < suc c → j < suc c → g i ≡ g j → i ≡ j
    apart' i j hi hj e =
        elim (at i) [
          | inl a ↦ (elim (at j) [
            | inl b ↦ apart i j (omega arith) (omega arith) (a.0 ∙ sym b.0)
            | inr b ↦ absurd (let q = apart (suc c) j (omega arith) (omega arith) (sym a.1 ∙ (e ∙ b.1)) in omega arith)
          ])
          | inr a ↦ (elim (at j) [
            | inl b ↦ absurd (let q = apart i (suc c) (omega arith) (omega arith) (sym a.1 ∙ (e ∙ b.1)) in omega arith)
            | inr b ↦ apart i j (omega arith) (omega arith) (sym a.1 ∙ (e ∙ b.1))
          ])
        ]

-- the number that a slot holds
number : {K : Type 0} → Option (ℕ × K) → ℕ
number None = 0
number (Some x) = x.0

module _ {K : Type 0} (cmp : K → K → Ordering) (es : List (Entry K)) (sd : Sound cmp es) (low : Low es) (n : ℕ) (lt : n < length es) (none : key_of es n ≡ None) (full : held es ≡ length es) where
  -- every slot is taken, by a number below the length
  slot : (s : ℕ) → s < length es → (k : K) × (get_or (items es) s None ≡ Some (number (get_or (items es) s None), k))
  unfolding number
  slot s l =
      elim (option_cases (get_or (items es) s None)) [
        | inl e ↦ absurd (let size = length_items es in let r = count_room (items es) s (omega arith) e in omega arith)
        | inr y ↦ (y.0.1, y.1 ∙ ap (λ (m : ℕ). Some (m, y.0.1)) (sym (ap number y.1)))
      ]

  -- the numbers of the slots, and the absent one after them
  told : ℕ → ℕ
  told i = cond (eqb i (length es)) n (number (get_or (items es) i None))

  told_slot : (i : ℕ) → (i ≡ length es → ⊥) → told i ≡ number (get_or (items es) i None)
  unfolding told
  told_slot i ne = cond-false _ _ _ (ne_eqb i (length es) ne)

  told_last : (i : ℕ) → i ≡ length es → told i ≡ n
  unfolding told
  told_last i e = cond-true _ _ _ (eq-eqb i (length es) e)

  stands_at : (i : ℕ) → i < length es → (k : K) × (key_of es (number (get_or (items es) i None)) ≡ Some k)
  stands_at i l =
      let size = length_items es in
      let y = slot i l in
      (y.0, key_in-at (items es) i _ y.0 (only_one (items es) i _ y.0 sd.distinct y.1) (omega arith) y.1)

  never : (i : ℕ) → i < length es → number (get_or (items es) i None) ≡ n → ⊥
  never i l e = let y = stands_at i l in let q : None ≡ Some y.0 = sym none ∙ (ap (λ (m : ℕ). key_of es m) (sym e) ∙ y.1) in let z : ◌≡◌ {A = ℕ} 0 1 = cc q in omega arith

  -- so not every slot is taken
  pub not_full : ⊥
  not_full =
      pigeons (length es) told
      (λ i h. elim (cases_eq i (length es)) [ inl e ↦ (let t = told_last i e in omega arith) | inr ne ↦ (let t = told_slot i ne in let y = stands_at i (omega arith) in let s = low _ y.0 y.1 in omega arith) ])
      (λ i j hi hj e. elim (cases_eq i (length es)) [
        | inl a ↦ (elim (cases_eq j (length es)) [
          | inl b ↦ a ∙ sym b
          | inr nb ↦ absurd (never j (omega arith) (sym (told_slot j nb) ∙ (sym e ∙ told_last i a)))
        ])
        | inr na ↦ (elim (cases_eq j (length es)) [
          | inl b ↦ absurd (never i (omega arith) (sym (told_slot i na) ∙ (e ∙ told_last j b)))
          | inr nb ↦ (let x = slot i (omega arith) in let y = slot j (omega arith) in
              let q = sym (told_slot i na) ∙ (e ∙ told_slot j nb) in
              let P : ℕ → Type 0 = λ m. under (get_or (items es) j None) m ≡ true in
              sd.distinct i j _ (some_under _ _ x.0 x.1) (subst P (sym q) (some_under _ _ y.0 y.1)))
        ])
      ])
