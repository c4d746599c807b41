-- The best of some numbers: it is one of them, and none beats it. Assumes nothing.
use Rattle.std.proofs.Common.{◌≡◌, ℕ, zero, suc, ◌+◌, ◌<◌, Bool, true, false, cond, List, [], ◌∷◌, Some, None, filter, Option, sym, refl, ap, ◌∙◌, subst, inl, inr, arith}
use Rattle.std.specs.List.{range_with_len}
use Rattle.method.specs.Choices.{better, best}
use Rattle.method.proofs.Members.{Member, member_kept}

module _ (beats : ℕ → ℕ → Bool) where
  pub best_none : (xs : List ℕ) → best beats xs ≡ None → (q : ℕ) → Member q xs → ⊥
  best_none [] e q h = h
  best_none (x ∷ xs) e q h = go (best beats xs) e
    where
      some : (b : Bool) (y : ℕ) → cond b (Some y) (Some x) ≡ None → ⊥
      some true y n = let z : ◌≡◌ {A = ℕ} 0 1 = cc in omega arith
      some false y n = let z : ◌≡◌ {A = ℕ} 0 1 = cc in omega arith

      go : (r : Option ℕ) → better beats x r ≡ None → ⊥
      go None n = let z : ◌≡◌ {A = ℕ} 0 1 = cc in omega arith
      go (Some y) n = some (beats y x) y n

-- an order of which `beats` is the strict part
pub record Ranks (beats : ℕ → ℕ → Bool) (Upto : ℕ → ℕ → Type 0) : Type 0 where
  pub same : (p : ℕ) → Upto p p
  pub wins : (q p : ℕ) → beats q p ≡ true → Upto q p
  pub holds : (q p : ℕ) → beats q p ≡ false → Upto p q
  pub carries : (p q r : ℕ) → Upto p q → Upto q r → Upto p r

-- one of the numbers, and no later than each of them
pub record Best (Upto : ℕ → ℕ → Type 0) (xs : List ℕ) (p : ℕ) : Type 0 where
  pub among : Member p xs
  pub least : (q : ℕ) → Member q xs → Upto p q

pub best_least : (beats : ℕ → ℕ → Bool) (Upto : ℕ → ℕ → Type 0) → Ranks beats Upto → (xs : List ℕ) (p : ℕ) → best beats xs ≡ Some p → Best Upto xs p
best_least beats Upto ranks [] p e = absurd (let z : ◌≡◌ {A = ℕ} 0 1 = cc in omega arith)
best_least beats Upto ranks (x ∷ xs) p e = go (best beats xs) refl e (best_least beats Upto ranks xs)
  where
    first : (q : ℕ) → q ≡ x → Upto x q
    first q e = rw e (ranks.same x)

    choose : (y : ℕ) → Best Upto xs y → (b : Bool) → beats y x ≡ b → cond b (Some y) (Some x) ≡ Some p → Best Upto (x ∷ xs) p
    choose y so true b e =
        let same : p ≡ y = cc in
        rw same (record { among = inr so.among; least = λ q h. later q h })
      where
        later : (q : ℕ) → Member q (x ∷ xs) → Upto y q
        later q (inl e) = rw e (ranks.wins y x b)
        later q (inr h) = so.least q h
    choose y so false b e =
        let same : p ≡ x = cc in
        rw same (record { among = inl refl; least = λ q h. later q h })
      where
        later : (q : ℕ) → Member q (x ∷ xs) → Upto x q
        later q (inl e) = first q e
        later q (inr h) = ranks.carries x y q (ranks.holds y x b) (so.least q h)

    go : (r : Option ℕ) → best beats xs ≡ r → better beats x r ≡ Some p → ((y : ℕ) → best beats xs ≡ Some y → Best Upto xs y) → Best Upto (x ∷ xs) p
    go None n e so =
        let same : p ≡ x = cc in
        rw same (record { among = inl refl; least = λ q h. later q h })
      where
        later : (q : ℕ) → Member q (x ∷ xs) → Upto x q
        later q (inl e) = first q e
        later q (inr h) = absurd (best_none beats xs n q h)
    go (Some y) n e so = choose y (so y n) (beats y x) refl e

-- numbers that rise
abbrev pub Rising : List ℕ → Type 0
Rising [] = Unit {0}
Rising (x ∷ xs) = ((y : ℕ) → Member y xs → x < y) × Rising xs

pub rising_kept : (test : ℕ → Bool) (a n : ℕ) → Rising (filter test (range_with_len a n))
rising_kept test a zero = tt
rising_kept test a (suc n) = go (test a) (rising_kept test (a + 1) n)
  where
    go : (t : Bool) → Rising (filter test (range_with_len (a + 1) n)) → Rising (cond t (a ∷ filter test (range_with_len (a + 1) n)) (filter test (range_with_len (a + 1) n)))
    go true more = (λ y h. omega (arith, (member_kept test (a + 1) n y h).from), more)
    go false more = more

-- it beats every lower number
pub best_lowest : (beats : ℕ → ℕ → Bool) (xs : List ℕ) → Rising xs → (p : ℕ) → best beats xs ≡ Some p → (q : ℕ) → Member q xs → q < p → beats p q ≡ true
best_lowest beats [] up p e q h low = absurd h
best_lowest beats (x ∷ xs) up p e q h low = go (best beats xs) refl e (best_lowest beats xs up.1)
  where
    first : p ≡ x → Member q (x ∷ xs) → ⊥
    first same (inl is) = omega arith
    first same (inr later) = omega (arith, up.0 q later)

    choose : (y : ℕ) → ((p : ℕ) → best beats xs ≡ Some p → (q : ℕ) → Member q xs → q < p → beats p q ≡ true) → best beats xs ≡ Some y → (b : Bool) → beats y x ≡ b → cond b (Some y) (Some x) ≡ Some p → Member q (x ∷ xs) → beats p q ≡ true
    choose y more is true b e (inl at) = let same : p ≡ y = cc in rw (same, at) b
    choose y more is true b e (inr later) = let same : p ≡ y = cc in more p (is ∙ ap Some (sym same)) q later low
    choose y more is false b e at = let same : p ≡ x = cc in absurd (first same at)

    go : (r : Option ℕ) → best beats xs ≡ r → better beats x r ≡ Some p → ((p : ℕ) → best beats xs ≡ Some p → (q : ℕ) → Member q xs → q < p → beats p q ≡ true) → beats p q ≡ true
    go None n e more = let same : p ≡ x = cc in absurd (first same h)
    go (Some y) n e more = choose y more n (beats y x) refl e h

-- the best is one of them
pub best_member : (beats : ℕ → ℕ → Bool) (xs : List ℕ) (p : ℕ) → best beats xs ≡ Some p → Member p xs
best_member beats [] p e = absurd (let z : ◌≡◌ {A = ℕ} 0 1 = cc in omega arith)
best_member beats (x ∷ xs) p e = go (best beats xs) refl e (best_member beats xs)
  where
    choose : (y : ℕ) → Member y xs → (b : Bool) → cond b (Some y) (Some x) ≡ Some p → Member p (x ∷ xs)
    choose y h true e = let same : p ≡ y = cc in inr (subst (λ q. Member q xs) (sym same) h)
    choose y h false e = let same : p ≡ x = cc in inl same

    go : (r : Option ℕ) → best beats xs ≡ r → better beats x r ≡ Some p → ((y : ℕ) → best beats xs ≡ Some y → Member y xs) → Member p (x ∷ xs)
    go None n e more = let same : p ≡ x = cc in inl same
    go (Some y) n e more = choose y (more y n) (beats y x) e
