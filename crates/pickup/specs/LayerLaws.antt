-- A layer over a lawful ground is lawful. Assumes nothing.
use Rattle.std.specs.Prelude.{◌≡◌, ℕ, ◌+◌, ◌-◌, ◌*◌, ◌<◌, ◌≤◌, Bool, true, false, cond, nat_le, nat_lt, refl}
use Rattle.std.proofs.Common.{inl, inr, sym, ◌∙◌, subst}
use Rattle.std.proofs.Math.Path.{ap}
use native.Mathlib.Omega.{arith}
use Rattle.std.proofs.lemmas.Bool.{cases_lt, lt-ltb, le-ltb, ltb-true, leb-true, and_parts, cond-true, cond-false}
use Rattle.ground.specs.Meanings.{Meaning, Lawful}
use Rattle.pickup.specs.Layers.{fits, crossings, copied, lowered, layered}

module _ (arcs : ℕ) (before after : ℕ → ℕ) (own : ℕ) where
  pub copied_before : (j : ℕ) → j < arcs → copied arcs before after own j ≡ before j
  copied_before j h = cond-true (nat_lt j arcs) (before j) (cond (nat_lt j (2 * arcs)) (after (j - arcs)) own) (lt-ltb j arcs h)

  pub copied_after : (j : ℕ) → j < arcs → copied arcs before after own (arcs + j) ≡ after j
  copied_after j h =
      let k = arcs + j in
      let e : k - arcs ≡ j = omega arith in
      cond-false (nat_lt k arcs) (before k) (cond (nat_lt k (2 * arcs)) (after (k - arcs)) own) (le-ltb k arcs (omega arith))
      ∙ cond-true (nat_lt k (2 * arcs)) (after (k - arcs)) own (lt-ltb k (2 * arcs) (omega arith))
      ∙ ap after e

  pub copied_own : (j : ℕ) → 2 * arcs ≤ j → copied arcs before after own j ≡ own
  copied_own j h =
      cond-false (nat_lt j arcs) (before j) (cond (nat_lt j (2 * arcs)) (after (j - arcs)) own) (le-ltb j arcs (omega arith))
      ∙ cond-false (nat_lt j (2 * arcs)) (after (j - arcs)) own (le-ltb j (2 * arcs) h)

pub lowered_before : (places p : ℕ) → p < places → lowered places p ≡ p
lowered_before places p h = cond-true (nat_lt p places) p (p - places) (lt-ltb p places h)

pub lowered_after : (places p : ℕ) → lowered places (places + p) ≡ p
lowered_after places p =
    let e : places + p - places ≡ p = omega arith in
    cond-false (nat_lt (places + p) places) (places + p) (places + p - places) (le-ltb (places + p) places (omega arith)) ∙ e

pub lowered_in : (places p : ℕ) → p < 2 * places → lowered places p < places
lowered_in places p h =
    elim (cases_lt p places) [
      | inl l ↦ subst (λ (z : ℕ). z < places) (sym (lowered_before places p l)) l
      | inr l ↦ (let e : places + (p - places) ≡ p = omega arith in subst (λ (z : ℕ). z < places) (sym (ap (lowered places) (sym e) ∙ lowered_after places (p - places))) (omega arith))
    ]

-- an arc of the layer is one of the ground below, a copy of one, or the pick-up
pub data Kind (b : Meaning) (q : ℕ) : ℕ → Type 0 where
  before : (j : ℕ) → j < b.arcs → Kind b q j
  after : (j : ℕ) → j < b.arcs → Kind b q (b.arcs + j)
  pickup : q < b.places → Kind b q (2 * b.arcs)

module _ (b : Meaning) (q : ℕ) where
  -- a layer that has anything fits
  pub fitting : (x k : ℕ) → k < cond (fits b) x 0 → (fits b ≡ true) × (k < x)
  fitting x k h = at (fits b) refl h
    where
      at : (t : Bool) → fits b ≡ t → k < cond t x 0 → (fits b ≡ true) × (k < x)
      at true e h = (e, h)
      at false e h = absurd (omega arith)

  pub place_of : (p : ℕ) → p < (layered b q).places → p < 2 * b.places
  place_of p h = (fitting (2 * b.places) p h).1

  pub part_of_lem : (j : ℕ) → j < (layered b q).arcs → Kind b q j
  part_of_lem j h = at (fitting (2 * b.arcs + crossings b q) j h).1
    where
      last : (t : Bool) → nat_lt q b.places ≡ t → j < 2 * b.arcs + cond t 1 0 → 2 * b.arcs ≤ j → Kind b q j
      last true e l m = (let i : 2 * b.arcs ≡ j = omega arith in subst (Kind b q) i (pickup (ltb-true q b.places e)))
      last false e l m = absurd (omega arith)

      at : j < 2 * b.arcs + crossings b q → Kind b q j
      at l = elim (cases_lt j b.arcs) [
        | inl m ↦ before j m
        | inr m ↦ elim (cases_lt j (2 * b.arcs)) [
          | inl k ↦ (let i : b.arcs + (j - b.arcs) ≡ j = omega arith in subst (Kind b q) i (after (j - b.arcs) (omega arith)))
          | inr k ↦ last (nat_lt q b.places) refl l k
        ]
      ]

  -- what the parts of a layer have
  module _ (f g : ℕ → ℕ) (own : ℕ) (P : ℕ → ℕ → Type 0) where
    pub by_part : (j : ℕ) → Kind b q j → ((i : ℕ) → i < b.arcs → P i (f i)) → ((i : ℕ) → i < b.arcs → P (b.arcs + i) (g i)) → (q < b.places → P (2 * b.arcs) own) → P j (copied b.arcs f g own j)
    by_part j (before i h) x y z = subst (P i) (sym (copied_before b.arcs f g own i h)) (x i h)
    by_part j (after i h) x y z = subst (P (b.arcs + i)) (sym (copied_after b.arcs f g own i h)) (y i h)
    by_part j (pickup h) x y z = subst (P (2 * b.arcs)) (sym (copied_own b.arcs f g own (2 * b.arcs) (omega arith))) (z h)

module _ (b : Meaning) (q : ℕ) (l : Lawful b) where
  tails : ℕ → ℕ
  tails = copied b.arcs b.tail (λ j. b.places + b.tail j) q

  heads : ℕ → ℕ
  heads = copied b.arcs b.head (λ j. b.places + b.head j) (b.places + q)

  leasts : ℕ → ℕ
  leasts = copied b.arcs b.least b.least 1

  -- the estimate rises along an arc of the layer as along the arc below; the pick-up leads nowhere else
  layer_step : (a j : ℕ) → a < b.places → Kind b q j → b.estimate a (lowered b.places (heads j)) ≤ b.estimate a (lowered b.places (tails j)) + leasts j
  unfolding tails heads leasts
  layer_step a j h (before i k) =
      let n = b.places in
      let s = ap (lowered n) (copied_before b.arcs b.tail (λ j. n + b.tail j) q i k) ∙ lowered_before n (b.tail i) (l.tail_in i k) in
      let t = ap (lowered n) (copied_before b.arcs b.head (λ j. n + b.head j) (n + q) i k) ∙ lowered_before n (b.head i) (l.head_in i k) in
      omega (arith, ap (b.estimate a) s, ap (b.estimate a) t, copied_before b.arcs b.least b.least 1 i k, l.estimate_step a i h k)
  layer_step a j h (after i k) =
      let n = b.places in
      let s = ap (lowered n) (copied_after b.arcs b.tail (λ j. n + b.tail j) q i k) ∙ lowered_after n (b.tail i) in
      let t = ap (lowered n) (copied_after b.arcs b.head (λ j. n + b.head j) (n + q) i k) ∙ lowered_after n (b.head i) in
      omega (arith, ap (b.estimate a) s, ap (b.estimate a) t, copied_after b.arcs b.least b.least 1 i k, l.estimate_step a i h k)
  layer_step a j h (pickup k) =
      let n = b.places in
      let o : 2 * b.arcs ≤ 2 * b.arcs = omega arith in
      let s = ap (lowered n) (copied_own b.arcs b.tail (λ j. n + b.tail j) q (2 * b.arcs) o) ∙ lowered_before n q k in
      let t = ap (lowered n) (copied_own b.arcs b.head (λ j. n + b.head j) (n + q) (2 * b.arcs) o) ∙ lowered_after n q in
      omega (arith, ap (b.estimate a) s, ap (b.estimate a) t)

  -- a size that is 0 where the layer does not fit
  small : (x most : ℕ) → (fits b ≡ true → x ≤ most) → cond (fits b) x 0 ≤ most
  small x most h = at (fits b) refl
    where
      at : (t : Bool) → fits b ≡ t → cond t x 0 ≤ most
      at true e = h e
      at false e = omega arith

  room : fits b ≡ true → (2 * b.places ≤ 16384) × (2 * b.arcs + 1 ≤ 131072)
  room e =
      let r = and_parts (nat_le (2 * b.places) 16384) (nat_le (2 * b.arcs + 1) 131072) e in
      (leb-true (2 * b.places) 16384 r.0, leb-true (2 * b.arcs + 1) 131072 r.1)

  one_crossing : crossings b q ≤ 1
  one_crossing = at (nat_lt q b.places)
    where
      at : (t : Bool) → cond t 1 0 ≤ 1
      at true = omega arith
      at false = omega arith

  whole : (j p : ℕ) → j < (layered b q).arcs → p < 2 * b.places → p < (layered b q).places
  whole j p h k =
      let f = (fitting b q (2 * b.arcs + crossings b q) j h).0 in
      subst (λ (z : ℕ). p < z) (sym (cond-true (fits b) (2 * b.places) 0 f)) k

  pub layered_lawful : Lawful (layered b q)
  unfolding tails heads leasts
  layered_lawful = record {
    few_places = small (2 * b.places) 16384 (λ e. (room e).0);
    few_arcs = small (2 * b.arcs + crossings b q) 131072 (λ e. omega (arith, room e, one_crossing));
    tail_in = λ j h. whole j (tails j) h (by_part b q b.tail (λ j. b.places + b.tail j) q (λ _ p. p < 2 * b.places) j (part_of_lem b q j h) (λ i k. omega (arith, l.tail_in i k)) (λ i k. omega (arith, l.tail_in i k)) (λ k. omega arith));
    head_in = λ j h. whole j (heads j) h (by_part b q b.head (λ j. b.places + b.head j) (b.places + q) (λ _ p. p < 2 * b.places) j (part_of_lem b q j h) (λ i k. omega (arith, l.head_in i k)) (λ i k. omega (arith, l.head_in i k)) (λ k. omega arith));
    least_low = λ j h. by_part b q b.least b.least 1 (λ _ x. 1 ≤ x) j (part_of_lem b q j h) l.least_low l.least_low (λ k. omega arith);
    least_high = λ j h. by_part b q b.least b.least 1 (λ _ x. x ≤ 10000) j (part_of_lem b q j h) l.least_high l.least_high (λ k. omega arith);
    estimate_high = λ a s h k. l.estimate_high (lowered b.places a) (lowered b.places s) (lowered_in b.places a (place_of b q a h)) (lowered_in b.places s (place_of b q s k));
    estimate_self = λ a h. l.estimate_self (lowered b.places a) (lowered_in b.places a (place_of b q a h));
    estimate_step = λ a j h k. layer_step (lowered b.places a) j (lowered_in b.places a (place_of b q a h)) (part_of_lem b q j k);
  }
