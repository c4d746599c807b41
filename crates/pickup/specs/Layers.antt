-- What a layer over a ground means: every place twice, before and after the pick-up. Assumes nothing.
use Rattle.std.specs.Prelude.{ℕ, ◌+◌, ◌-◌, ◌*◌, Bool, cond, ◌&&◌, nat_le, nat_lt}
use Rattle.ground.specs.Meanings.{Meaning}

-- two copies of the ground and the pick-up are no more than a ground may have
abbrev pub fits : Meaning → Bool
fits b = nat_le (2 * b.places) 16384 && nat_le (2 * b.arcs + 1) 131072

-- how many pick-up arcs there are: one, unless q is not on the ground
abbrev pub crossings : Meaning → ℕ → ℕ
crossings b q = cond (nat_lt q b.places) 1 0

-- what arc j of the layer has: that of arc j below, that of the copy after the pick-up, or the pick-up's own
abbrev pub copied : ℕ → (ℕ → ℕ) → (ℕ → ℕ) → ℕ → ℕ → ℕ
copied arcs before after own j = cond (nat_lt j arcs) (before j) (cond (nat_lt j (2 * arcs)) (after (j - arcs)) own)

-- the place below a place of the layer
abbrev pub lowered : ℕ → ℕ → ℕ
lowered places p = cond (nat_lt p places) p (p - places)

-- The layer over b with the pick-up at q: places p and n + p, arcs j and m + j, and arc 2m from q to n + q.
abbrev pub layered : Meaning → ℕ → Meaning
layered b q = record {
  places = cond (fits b) (2 * b.places) 0;
  arcs = cond (fits b) (2 * b.arcs + crossings b q) 0;
  tail = copied b.arcs b.tail (λ j. b.places + b.tail j) q;
  head = copied b.arcs b.head (λ j. b.places + b.head j) (b.places + q);
  least = copied b.arcs b.least b.least 1;
  estimate = λ a s. b.estimate (lowered b.places a) (lowered b.places s);
}
