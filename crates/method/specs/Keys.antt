-- The keys by which open places are taken. Assumes nothing.
use Rattle.std.specs.Prelude.{ℕ, ◌+◌, ◌*◌, Bool, cond, ◌&&◌, ◌||◌, ◌==◌, nat_lt}
use Rattle.ground.specs.Meanings.{Meaning}
use Rattle.method.specs.States.{State}
use Rattle.method.specs.Values.{rhs, over}

pub record Key : Type 0 where
  pub first : ℕ
  pub second : ℕ

-- ordered by the first number, and by the second where the first are equal; no cap applies
abbrev pub before : Key → Key → Bool
before k l = nat_lt k.first l.first || (k.first == l.first && nat_lt k.second l.second)

-- the key of an over place: the estimate counts by the slack
abbrev pub over_key : ℕ → ℕ → ℕ → Key
over_key slack value estimate = record { first = 16 * value + slack * estimate; second = value }

-- the key of any other place: the estimate counts once
abbrev pub under_key : ℕ → ℕ → Key
under_key value estimate = record { first = 16 * value + 16 * estimate; second = value }

unfoldable pub key : Meaning → State → ℕ → Key
key m s p = cond (over m s p) (over_key s.slack (rhs m s p) (m.estimate s.here p)) (under_key (s.g p) (m.estimate s.here p))
