-- Tables that agree on the ground's arcs and places. Assumes nothing.
use Rattle.std.proofs.Common.{◌≡◌, ℕ, ◌-◌, ◌<◌, ◌≤◌, List, ◌++◌, length, get_or, take, drop, sym, refl, ap, ◌∙◌, ap₂, arith, length-append, length-take}
use borrow.Rule.Slice.PartMut.{post_of}
use Rattle.std.proofs.lemmas.List.{get_or_append_left, get_or-take, drop_at, take-append-le, take_all}
use Rattle.terms.specs.Amounts.{◌⊕◌}
use Rattle.ground.specs.Meanings.{Meaning, Lawful}
use Rattle.method.specs.States.{State}
use Rattle.method.specs.Values.{offer, rhs}
use Rattle.queue.specs.declared.entry.Entry.{Entry}
use Rattle.queue.specs.declared.key.Key.{Key}
use Rattle.search.proofs.Agreeing.{rhs_agrees, rhs_below_at}
use Rattle.search.specs.declared.aim.Aim.{Aim}
use Rattle.search.specs.declared.place.Place.{Place}
use Rattle.search.specs.Queued.{Synced, wanted_for}
use Rattle.search.specs.Tables.{Cached, Shows, Sized, nowhere, place_at, told}

-- where the arcs that leave a place offer the same, its rhs is the same
pub rhs_agrees_at : (m : Meaning) (s t : State) → t.landing ≡ s.landing → (p : ℕ) → ((j : ℕ) → j < m.arcs → m.tail j ≡ p → offer m t j ≡ offer m s j) → rhs m t p ≡ rhs m s p
rhs_agrees_at m s t landings p same =
    let below : rhs m t p ≤ rhs m s p = rhs_below_at m s t landings p (λ j h e _. let k = same j h e in omega arith) in
    let above : rhs m s p ≤ rhs m t p = rhs_below_at m t s (sym landings) p (λ j h e _. let k = same j h e in omega arith) in
    omega arith

-- the rhs depends on the landing alone of what the search aims at
pub rhs_aimed : (m : Meaning) (aim aim' : Aim) (costs : List ℕ) (places : List Place) → aim'.landing ≡ aim.landing → (p : ℕ) → rhs m (told aim' costs places) p ≡ rhs m (told aim costs places) p
rhs_aimed m aim aim' costs places e p = rhs_agrees m (told aim costs places) (told aim' costs places) e (λ j h. refl) p

-- The second tables say of the ground's arcs and places what the first say.
pub record SameFront (m : Meaning) (costs : List ℕ) (places : List Place) (costs' : List ℕ) (places' : List Place) : Type 0 where
  pub same_costs : (j : ℕ) → j < m.arcs → get_or costs' j 0 ≡ get_or costs j 0
  pub same_places : (p : ℕ) → p < m.places → place_at places' p ≡ place_at places p

module _ (m : Meaning) (lawful : Lawful m) (aim : Aim) (costs : List ℕ) (places : List Place) (costs' : List ℕ) (places' : List Place) (same : SameFront m costs places costs' places') where
  pub same_rhs : (p : ℕ) → rhs m (told aim costs' places') p ≡ rhs m (told aim costs places) p
  same_rhs p = rhs_agrees m (told aim costs places) (told aim costs' places') refl (λ j h. ap₂ ◌⊕◌ (same.same_costs j h) (ap (λ (x : Place). x.g) (same.same_places (m.head j) (lawful.head_in j h)))) p

  pub same_cached : Cached m aim costs places → Cached m aim costs' places'
  same_cached c p h = ap (λ (x : Place). x.rhs) (same.same_places p h) ∙ c p h ∙ sym (same_rhs p)

module _ (m : Meaning) (aim : Aim) (costs : List ℕ) (places : List Place) (costs' : List ℕ) (places' : List Place) (same : SameFront m costs places costs' places') where
  pub same_shows : (s : State) → Shows m s aim costs places → Shows m s aim costs' places'
  same_shows s shows = record {
    costs_are = λ j h. same.same_costs j h ∙ shows.costs_are j h;
    values_are = λ p h. ap (λ (x : Place). x.g) (same.same_places p h) ∙ shows.values_are p h;
    closed_are = λ p h. ap (λ (x : Place). x.closed) (same.same_places p h) ∙ shows.closed_are p h;
    here_is = shows.here_is;
    landing_is = shows.landing_is;
    slack_is = shows.slack_is;
  }

  pub same_synced : (es : List (Entry Key)) → Synced m aim m.places places es → Synced m aim m.places places' es
  same_synced es synced = record {
    sound = synced.sound;
    below = λ p h. synced.below p h ∙ ap (wanted_for m aim p) (sym (same.same_places p h));
    beyond = synced.beyond;
  }

-- A part `&table[0..n]`, and the table once the part was written to.
module _ {A : Type 0} (n : ℕ) (xs : List A) where
  pub part_size : n ≤ length xs → length (take (n - 0) (drop 0 xs)) ≡ n
  part_size h = omega (arith, length-take (n - 0) (drop 0 xs))

  pub part_at : (d : A) (p : ℕ) → p < n → get_or (take (n - 0) (drop 0 xs)) p d ≡ get_or xs p d
  part_at d p h = get_or-take (n - 0) xs p d (omega arith)

  module _ (ys : List A) (size : length ys ≡ n) where
    pub front_at : (d : A) (p : ℕ) → p < n → get_or (ys ++ post_of 0 (n - 0) xs) p d ≡ get_or ys p d
    front_at d p h = get_or_append_left ys (post_of 0 (n - 0) xs) d p (omega arith)

    pub front_rest : drop n (ys ++ post_of 0 (n - 0) xs) ≡ drop n xs
    front_rest = let e : n - 0 ≡ n = omega arith in drop_at ys (post_of 0 (n - 0) xs) n size ∙ ap (λ k. drop k xs) e

    pub front_rest_at : (k : ℕ) → n ≡ k → drop k (ys ++ post_of 0 (n - 0) xs) ≡ drop k xs
    front_rest_at k e = ap (λ i. drop i (ys ++ post_of 0 (n - 0) xs)) (sym e) ∙ front_rest ∙ ap (λ i. drop i xs) e

    pub front_is : take n (ys ++ post_of 0 (n - 0) xs) ≡ ys
    front_is = take-append-le n ys (post_of 0 (n - 0) xs) (omega arith) ∙ take_all n ys (omega arith)

    pub front_size : n ≤ length xs → n ≤ length (ys ++ post_of 0 (n - 0) xs)
    front_size h = omega (arith, length-append ys (post_of 0 (n - 0) xs))

module _ (m : Meaning) (a n : ℕ) (costs : List ℕ) (places : List Place) (arcs_same : a ≡ m.arcs) (places_same : n ≡ m.places) where
  -- the parts as large as the ground
  pub part_sized : m.arcs ≤ length costs → m.places ≤ length places → Sized m (take (a - 0) (drop 0 costs)) (take (n - 0) (drop 0 places))
  part_sized hc hp = record { costs_fit = part_size a costs (omega arith) ∙ arcs_same; places_fit = part_size n places (omega arith) ∙ places_same }

  pub part_same : SameFront m costs places (take (a - 0) (drop 0 costs)) (take (n - 0) (drop 0 places))
  part_same = record {
    same_costs = λ j h. part_at a costs 0 j (omega arith);
    same_places = λ p h. part_at n places nowhere p (omega arith);
  }

  pub front_same : (ys : List ℕ) (zs : List Place) → length ys ≡ a → length zs ≡ n → SameFront m ys zs (ys ++ post_of 0 (a - 0) costs) (zs ++ post_of 0 (n - 0) places)
  front_same ys zs hy hz = record {
    same_costs = λ j h. front_at a costs ys hy 0 j (omega arith);
    same_places = λ p h. front_at n places zs hz nowhere p (omega arith);
  }
