-- What the parts of a turn make of the tables. Assumes nothing.
use Rattle.std.specs.Prelude.{◌≡◌, ℕ, min, Bool, List, ◌≢◌, slice_index_or}
use Rattle.terms.specs.Amounts.{◌⊕◌}
use Rattle.ground.specs.Meanings.{Meaning}
use Rattle.method.specs.Values.{rhs}
use Rattle.queue.specs.declared.entry.Entry.{Entry}
use Rattle.queue.specs.declared.key.Key.{Key}
use Rattle.search.specs.declared.aim.Aim.{Aim}
use Rattle.search.specs.declared.place.Place.{Place}
use Rattle.search.specs.Tables.{place_at, told, Cached}
use Rattle.search.specs.Queued.{Synced}

-- a queue that was in step with the places is in step with them still
abbrev pub StaysSynced : Meaning → Aim → List Place → List (Entry Key) → List Place → List (Entry Key) → Type 0
StaysSynced m aim places es places' es' = Synced m aim m.places places es → Synced m aim m.places places' es'

-- values and Closed are as they were; a place may have another rhs
pub record SameValues (places places' : List Place) : Type 0 where
  pub values : (q : ℕ) → (place_at places' q).g ≡ (place_at places q).g
  pub closed : (q : ℕ) → (place_at places' q).closed ≡ (place_at places q).closed

-- the head of an arc fell to a value: its tail, unless it is the landing, has the way over the arc if that is shorter
pub record Lowered (m : Meaning) (aim : Aim) (costs : List ℕ) (j value : ℕ) (places places' : List Place) : Type 0 where
  pub same : SameValues places places'
  pub others : (q : ℕ) → (q ≢ m.tail j) → (place_at places' q).rhs ≡ (place_at places q).rhs
  pub landing : m.tail j ≡ aim.landing → (place_at places' (m.tail j)).rhs ≡ (place_at places (m.tail j)).rhs
  pub away : (m.tail j ≢ aim.landing) → (place_at places' (m.tail j)).rhs ≡ min (place_at places (m.tail j)).rhs (slice_index_or costs j 0 ⊕ value)

-- the head of an arc rose from a value: where the tail's rhs is the way over the arc with that value, it is made anew
pub record Raised (m : Meaning) (aim : Aim) (costs : List ℕ) (j value : ℕ) (places places' : List Place) : Type 0 where
  pub same : SameValues places places'
  pub others : (q : ℕ) → (q ≢ m.tail j) → (place_at places' q).rhs ≡ (place_at places q).rhs
  pub resting : (place_at places (m.tail j)).rhs ≡ slice_index_or costs j 0 ⊕ value → (place_at places' (m.tail j)).rhs ≡ rhs m (told aim costs places) (m.tail j)
  pub free : ((place_at places (m.tail j)).rhs ≡ slice_index_or costs j 0 ⊕ value → ⊥) → (place_at places' (m.tail j)).rhs ≡ (place_at places (m.tail j)).rhs

-- one place has this value and is closed or not, the others are as they were, and each rhs is the defined one if it was
pub record Turned (m : Meaning) (aim : Aim) (costs : List ℕ) (p value : ℕ) (closed : Bool) (places places' : List Place) : Type 0 where
  pub value_is : (place_at places' p).g ≡ value
  pub values : (q : ℕ) → (q ≢ p) → (place_at places' q).g ≡ (place_at places q).g
  pub closed_is : (place_at places' p).closed ≡ closed
  pub closeds : (q : ℕ) → (q ≢ p) → (place_at places' q).closed ≡ (place_at places q).closed
  pub cached : Cached m aim costs places → Cached m aim costs places'
