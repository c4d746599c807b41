-- What stands in a list, and in a list of the numbers that pass a test. Assumes nothing.
use Rattle.std.proofs.Common.{◌≡◌, ℕ, zero, suc, ◌+◌, ◌<◌, ◌≤◌, Bool, true, false, cond, ◌⊎◌, List, [], ◌∷◌, filter, sym, refl, ap, ◌∙◌, inl, inr, arith}
use Rattle.std.specs.List.{range_with_len}
use Rattle.std.proofs.lemmas.Bool.{cases_Bool, cases_eq}

abbrev pub Member : ℕ → List ℕ → Type 0
Member x [] = ⊥
Member x (y ∷ ys) = (x ≡ y) ⊎ Member x ys

pub record Kept (test : ℕ → Bool) (low high x : ℕ) : Type 0 where
  pub from : low ≤ x
  pub upto : x < high
  pub passes : test x ≡ true

-- the numbers of a stretch that pass a test
pub kept_member : (test : ℕ → Bool) (a n x : ℕ) → a ≤ x → x < a + n → test x ≡ true → Member x (filter test (range_with_len a n))
kept_member test a zero x low high t = absurd (omega arith)
kept_member test a (suc n) x low high t = elim (cases_eq x a) [ inl e ↦ here e | inr d ↦ later (kept_member test (a + 1) n x (omega arith) (omega arith) t) ]
  where
    here : x ≡ a → Member x (cond (test a) (a ∷ filter test (range_with_len (a + 1) n)) (filter test (range_with_len (a + 1) n)))
    here e = rw (sym (ap test e) ∙ t) (inl e)

    later : Member x (filter test (range_with_len (a + 1) n)) → Member x (cond (test a) (a ∷ filter test (range_with_len (a + 1) n)) (filter test (range_with_len (a + 1) n)))
    later h = elim (cases_Bool (test a)) [ inl e ↦ rw e (inr h) | inr e ↦ rw e h ]

pub member_kept : (test : ℕ → Bool) (a n x : ℕ) → Member x (filter test (range_with_len a n)) → Kept test a (a + n) x
member_kept test a zero x h = absurd h
member_kept test a (suc n) x h = go (test a) refl h (member_kept test (a + 1) n x)
  where
    wider : Kept test (a + 1) (a + 1 + n) x → Kept test a (a + suc n) x
    wider k = record { from = omega (arith, k.from); upto = omega (arith, k.upto); passes = k.passes }

    go : (t : Bool) → test a ≡ t → Member x (cond t (a ∷ filter test (range_with_len (a + 1) n)) (filter test (range_with_len (a + 1) n))) → (Member x (filter test (range_with_len (a + 1) n)) → Kept test (a + 1) (a + 1 + n) x) → Kept test a (a + suc n) x
    go true e (inl same) more = record { from = omega arith; upto = omega arith; passes = ap test same ∙ e }
    go true e (inr k) more = wider (more k)
    go false e k more = wider (more k)
