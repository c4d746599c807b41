-- A total over the places that falls with each turn. Assumes nothing.
use Rattle.std.proofs.Common.{◌≡◌, ℕ, zero, suc, ◌+◌, ◌*◌, ◌<◌, ◌≤◌, refl, ap, inl, inr, arith}
use Rattle.std.proofs.lemmas.Bool.{cases_eq}

abbrev pub total : (ℕ → ℕ) → ℕ → ℕ
total w zero = 0
total w (suc n) = w n + total w n

pub total_most : (w : ℕ → ℕ) (n : ℕ) → ((p : ℕ) → w p ≤ 2) → total w n ≤ 2 * n
total_most w zero h = omega arith
total_most w (suc n) h = omega (arith, h n, total_most w n h)

pub total_none : (w : ℕ → ℕ) (n : ℕ) → total w n ≡ 0 → (p : ℕ) → p < n → w p ≡ 0
total_none w zero e p h = absurd (omega arith)
total_none w (suc n) e p h = elim (cases_eq p n) [ inl same ↦ omega (arith, ap w same) | inr d ↦ total_none w n (omega arith) p (omega arith) ]

total_same : (w v : ℕ → ℕ) (n : ℕ) → ((q : ℕ) → q < n → v q ≡ w q) → total v n ≡ total w n
total_same w v zero h = refl
total_same w v (suc n) h = omega (arith, h n (omega arith), total_same w v n (λ q l. h q (omega arith)))

pub total_falls : (w v : ℕ → ℕ) (n p : ℕ) → p < n → ((q : ℕ) → (q ≡ p → ⊥) → v q ≡ w q) → v p < w p → total v n + 1 ≤ total w n
total_falls w v zero p h same lower = absurd (omega arith)
total_falls w v (suc n) p h same lower = elim (cases_eq n p) [
  | inl e ↦ omega (arith, ap v e, ap w e, total_same w v n (λ q l. same q (λ f. omega arith)))
  | inr d ↦ omega (arith, same n d, total_falls w v n p (omega arith) same lower)
]
