-- The chains across a layer.
use Rattle.std.proofs.Common.{◌≡◌, ℕ, ◌+◌, ◌*◌, ◌<◌, ltb, List, [], ◌∷◌, ◌++◌, map, sym, refl, ap, ◌∙◌, subst, arith}
use Rattle.std.proofs.lemmas.Bool.{lt-ltb, cond-true}
use Rattle.ground.specs.Chains.{Chain}
use Rattle.ground.specs.Meanings.{Meaning, Lawful}
use Rattle.pickup.specs.Crossing.{Crosses, CrossingLaw}
use Rattle.pickup.specs.LayerLaws.{Kind, part_of_lem, fitting, copied_before, copied_after, copied_own}
use Rattle.pickup.specs.LayerLaws.Kind.{before, after, pickup}
use Rattle.pickup.specs.Layers.{fits, crossings, layered}

module _ (b : Meaning) (q : ℕ) (l : Lawful b) (some : 0 < (layered b q).places) where
  abbrev layer : Meaning
  layer = layered b q

  -- what the parts of the layer have
  record Ends (j s t : ℕ) : Type 0 where
    there : j < layer.arcs
    tail_is : layer.tail j ≡ s
    head_is : layer.head j ≡ t

  all_places : layer.places ≡ 2 * b.places
  all_places = cond-true (fits b) (2 * b.places) 0 (fitting b q (2 * b.places) 0 some).0

  all_arcs : layer.arcs ≡ 2 * b.arcs + crossings b q
  all_arcs = cond-true (fits b) (2 * b.arcs + crossings b q) 0 (fitting b q (2 * b.places) 0 some).0

  ends_before : (i : ℕ) → i < b.arcs → Ends i (b.tail i) (b.head i)
  ends_before i h = record {
    there = omega (arith, all_arcs);
    tail_is = copied_before b.arcs b.tail (λ j. b.places + b.tail j) q i h;
    head_is = copied_before b.arcs b.head (λ j. b.places + b.head j) (b.places + q) i h;
  }

  ends_after : (i : ℕ) → i < b.arcs → Ends (b.arcs + i) (b.places + b.tail i) (b.places + b.head i)
  ends_after i h = record {
    there = omega (arith, all_arcs);
    tail_is = copied_after b.arcs b.tail (λ j. b.places + b.tail j) q i h;
    head_is = copied_after b.arcs b.head (λ j. b.places + b.head j) (b.places + q) i h;
  }

  ends_pickup : q < b.places → Ends (2 * b.arcs) q (b.places + q)
  ends_pickup h = record {
    there = omega (arith, all_arcs, cond-true {A = ℕ} (ltb q b.places) 1 0 (lt-ltb q b.places h));
    tail_is = copied_own b.arcs b.tail (λ j. b.places + b.tail j) q (2 * b.arcs) (omega arith);
    head_is = copied_own b.arcs b.head (λ j. b.places + b.head j) (b.places + q) (2 * b.arcs) (omega arith);
  }

  -- a chain goes on from the head of an arc
  onward : {j s t : ℕ} → Ends j s t → (js : List ℕ) (z : ℕ) → Chain layer (layer.head j) js z → Chain layer t js z
  onward e js z c = subst (λ (a : ℕ). Chain layer a js z) e.head_is c

  joined : {j s t : ℕ} → Ends j s t → (js : List ℕ) (z : ℕ) → Chain layer t js z → Chain layer s (j ∷ js) z
  joined e js z c = (e.there, e.tail_is, subst (λ (a : ℕ). Chain layer a js z) (sym e.head_is) c)

  -- after the pick-up: copies of a chain below
  abbrev Copied : ℕ → List ℕ → ℕ → Type 0
  Copied a js t = (ds : List ℕ) × (js ≡ map (λ j. b.arcs + j) ds) × Chain b a ds t

  one_after : (js : List ℕ) (t : ℕ) → ((a : ℕ) → a < b.places → Chain layer (b.places + a) js (b.places + t) → Copied a js t) → (j : ℕ) → Kind b q j → (a : ℕ) → layer.tail j ≡ b.places + a → Chain layer (layer.head j) js (b.places + t) → Copied a (j ∷ js) t
  one_after js t rest j (before i h) a e c = absurd (omega (arith, (ends_before i h).tail_is, l.tail_in i h))
  one_after js t rest j (after i h) a e c =
      let s : b.tail i ≡ a = omega (arith, (ends_after i h).tail_is) in
      let r = rest (b.head i) (l.head_in i h) (onward (ends_after i h) js (b.places + t) c) in
      (i ∷ r.0, ap (λ ds. (b.arcs + i) ∷ ds) r.1, (h, s, r.2))
  one_after js t rest j (pickup h) a e c = absurd (omega (arith, (ends_pickup h).tail_is))

  copied_chain : (js : List ℕ) (t a : ℕ) → a < b.places → Chain layer (b.places + a) js (b.places + t) → Copied a js t
  copied_chain [] t a h c = ([], refl, (h, omega (arith, c.1)))
  copied_chain (j ∷ js) t a h c = one_after js t (copied_chain js t) j (part_of_lem b q j c.0) a c.1 c.2

  -- before it: a chain below, and then across
  one_before : (js : List ℕ) (t : ℕ) → ((p : ℕ) → p < b.places → Chain layer p js (b.places + t) → Crosses b q p js t) → (j : ℕ) → Kind b q j → (p : ℕ) → p < b.places → layer.tail j ≡ p → Chain layer (layer.head j) js (b.places + t) → Crosses b q p (j ∷ js) t
  one_before js t rest j (before i h) p k e c =
      let r = rest (b.head i) (l.head_in i h) (onward (ends_before i h) js (b.places + t) c) in
      (i ∷ r.0, r.1, ap (λ xs. i ∷ xs) r.2, (h, sym (ends_before i h).tail_is ∙ e, r.3), r.4)
  one_before js t rest j (after i h) p k e c = absurd (omega (arith, (ends_after i h).tail_is))
  one_before js t rest j (pickup h) p k e c =
      let r = copied_chain js t q h (onward (ends_pickup h) js (b.places + t) c) in
      ([], r.0, ap (λ xs. (2 * b.arcs) ∷ xs) r.1, (k, sym e ∙ (ends_pickup h).tail_is), r.2)

  across : (js : List ℕ) (t p : ℕ) → p < b.places → Chain layer p js (b.places + t) → Crosses b q p js t
  across [] t p h c = absurd (omega (arith, c.1))
  across (j ∷ js) t p h c = one_before js t (across js t) j (part_of_lem b q j c.0) p h c.1 c.2

  -- and the other way
  raised_chain : (ds : List ℕ) (a t : ℕ) → Chain b a ds t → Chain layer (b.places + a) (map (λ j. b.arcs + j) ds) (b.places + t)
  raised_chain [] a t c = (omega (arith, c.0, all_places), ap (λ z. b.places + z) c.1)
  raised_chain (d ∷ ds) a t c =
      subst (λ (z : ℕ). Chain layer (b.places + z) (map (λ j. b.arcs + j) (d ∷ ds)) (b.places + t)) c.1
      (joined (ends_after d c.0) (map (λ j. b.arcs + j) ds) (b.places + t) (raised_chain ds (b.head d) t c.2))

  crossing_chain : (cs ds : List ℕ) (p t : ℕ) → Chain b p cs q → Chain b q ds t → Chain layer p (cs ++ (2 * b.arcs) ∷ map (λ j. b.arcs + j) ds) (b.places + t)
  crossing_chain [] ds p t c d =
      let h : q < b.places = omega (arith, c.0, c.1) in
      subst (λ (z : ℕ). Chain layer z ((2 * b.arcs) ∷ map (λ j. b.arcs + j) ds) (b.places + t)) (sym c.1)
      (joined (ends_pickup h) (map (λ j. b.arcs + j) ds) (b.places + t) (raised_chain ds q t d))
  crossing_chain (i ∷ cs) ds p t c d =
      subst (λ (z : ℕ). Chain layer z (i ∷ (cs ++ (2 * b.arcs) ∷ map (λ j. b.arcs + j) ds)) (b.places + t)) c.1
      (joined (ends_before i c.0) (cs ++ (2 * b.arcs) ∷ map (λ j. b.arcs + j) ds) (b.places + t) (crossing_chain cs ds (b.head i) t c.2 d))

  both_ways : (p t : ℕ) (js : List ℕ) → p < b.places → (Chain layer p js (b.places + t) → Crosses b q p js t) × (Crosses b q p js t → Chain layer p js (b.places + t))
  both_ways p t js h = (across js t p h, λ x. subst (λ (ks : List ℕ). Chain layer p ks (b.places + t)) (sym x.2) (crossing_chain x.0 x.1 p t x.3 x.4))

pub crossing_law : (b : Meaning) (q : ℕ) → Lawful b → CrossingLaw b q
crossing_law b q l some p t js h = both_ways b q l some p t js h
