-- What the queue holds of the places that wait. Assumes nothing.
use Rattle.std.specs.Prelude.{◌≡◌, ℕ, ◌<◌, ◌≤◌, Bool, false, cond, not, ◌&&◌, List, Some, None, Option, ◌==◌, nat_lt}
use Rattle.terms.specs.Amounts.{far}
use Rattle.ground.specs.Meanings.{Meaning}
use Rattle.method.specs.Keys.{over_key, under_key, Key as Pair}
use Rattle.queue.specs.Calls.{Changed}
use Rattle.queue.specs.Content.{key_of}
use Rattle.queue.specs.Keys.{key_cmp, key_upto}
use Rattle.queue.specs.Sound.{Sound}
use Rattle.queue.specs.declared.entry.Entry.{Entry}
use Rattle.queue.specs.declared.key.Key.{Key}
use Rattle.search.specs.declared.aim.Aim.{Aim}
use Rattle.search.specs.declared.place.Place.{Place}
use Rattle.search.specs.Tables.{place_at}

-- the place waits for a turn: neither level nor closed
abbrev pub is_waiting : Place → Bool
is_waiting place = not (place.g == place.rhs) && not place.closed

-- the key of a place with this record, at this estimate from here
abbrev pub key_for : ℕ → ℕ → Place → Pair
key_for slack estimate place = cond (nat_lt place.rhs place.g) (over_key slack place.rhs estimate) (under_key place.g estimate)

-- the key as the queue's entries hold it
abbrev pub entry_key : Pair → Key
entry_key k = record { first = k.first; second = k.second }

-- what the queue is to hold under the number of a place with this record
abbrev pub wanted_for : Meaning → Aim → ℕ → Place → Option Key
wanted_for m aim p place = cond (is_waiting place) (Some (entry_key (key_for aim.slack.sixteenths (m.estimate aim.here p) place))) None

-- the queue holds just what is wanted of the places below a number, and nothing beyond
pub record Synced (m : Meaning) (aim : Aim) (upto : ℕ) (places : List Place) (es : List (Entry Key)) : Type 0 where
  pub sound : Sound key_cmp es
  pub below : (p : ℕ) → p < upto → key_of es p ≡ wanted_for m aim p (place_at places p)
  pub beyond : (p : ℕ) → upto ≤ p → key_of es p ≡ None

-- under one number stands what is wanted there, and all else is as it was
pub record Kept (p : ℕ) (o : Option Key) (es es' : List (Entry Key)) : Type 0 where
  pub sound : Sound key_cmp es'
  pub content : Changed p o es es'

-- no key in the queue comes before here's, the smallest being this one: here is level below far, and its own key is at most that
abbrev pub is_first : ℕ → Place → Key → Bool
is_first slack here smallest = here.g == here.rhs && (not (here.g == far) && key_upto (entry_key (key_for slack 0 here)) smallest)

-- the place as it is once Closed is emptied
abbrev pub reopened : Place → Place
reopened place = record { g = place.g; rhs = place.rhs; closed = false }
