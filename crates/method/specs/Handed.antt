-- What a call is handed besides its numbers, and the refusals that come before those of its outcome. Assumes nothing.
use Rattle.std.specs.Prelude.{◌≡◌, ℕ, Bool, true, false, cond, not, ◌&&◌, ◌||◌, ◌↔◌, List, [], ◌∷◌, Some, None, Option, ◌==◌, nat_le, nat_lt}
use Rattle.terms.specs.declared.refusal.Refusal.{Refusal}
use Rattle.terms.specs.declared.refusal.Refusal.TheVariants.{NotBegun, OtherGround, NoSuchPlace, StretchOutside, TableShort}
use Rattle.ground.specs.Meanings.{Meaning}
use Rattle.method.specs.Calls.{Call, set_cost, move_to, stretch_to, search_for, route_into, sum_over}
use Rattle.method.specs.Pasts.{Begin, Accepted}

-- how many places and arcs a ground has
pub record Size : Type 0 where
  pub places : ℕ
  pub arcs : ℕ

abbrev pub same_size : Size → Size → Bool
same_size k l = k.places == l.places && k.arcs == l.arcs

-- the tables that a call is handed: how many entries each has, and how many it has to hold
abbrev pub Lent : Type 0
Lent = List (ℕ × ℕ)

abbrev pub is_short : Lent → Bool
is_short [] = false
is_short (table ∷ tables) = nat_lt table.0 table.1 || is_short tables

-- whether the call looks at the ground once more
abbrev pub given_ground : Call → Bool
given_ground (set_cost j c) = true
given_ground (move_to p) = false
given_ground (stretch_to e) = false
given_ground (search_for turns) = true
given_ground (route_into entries) = true
given_ground (sum_over js) = false

-- refused before anything else is looked at: nothing has begun, the ground is another, or a table is short
abbrev pub turned_away_by : Option Size → Size → Lent → Call → Option Refusal
turned_away_by None size lent call = Some NotBegun
turned_away_by (Some begun) size lent call =
    cond (given_ground call && not (same_size begun size)) (Some OtherGround) (cond (is_short lent) (Some TableShort) None)

-- what Begin declines, in the order of the refusals' numbers
abbrev pub begin_refusal : Meaning → Begin → Lent → Option Refusal
begin_refusal m b lent =
    cond (nat_lt b.here m.places && nat_lt b.landing m.places)
    (cond (nat_le 16 b.slack && nat_le b.slack 160) (cond (is_short lent) (Some TableShort) None) (Some StretchOutside))
    (Some NoSuchPlace)

-- Begin is accepted exactly when here and the landing are places, the slack is one, and no table is short
abbrev pub BeginLaw : Type 0
BeginLaw = (m : Meaning) (b : Begin) (lent : Lent) → (begin_refusal m b lent ≡ None) ↔ (Accepted m b × (is_short lent ≡ false))
