-- The open places, and the one that has the turn. Assumes nothing.
use Rattle.std.proofs.Common.{◌≡◌, ℕ, ◌<◌, true, false, not, List, Some, None, arith}
use Rattle.std.proofs.lemmas.Bool.{and_parts, and_from, not-true, not_from_false, eqb-false, ne_eqb}
use Rattle.ground.specs.Meanings.{Meaning}
use Rattle.method.specs.States.{State}
use Rattle.method.specs.Values.{rhs, level, is_open, open_places}
use Rattle.method.specs.Keys.{Key, before}
use Rattle.method.specs.Turns.{soonest}
use Rattle.method.proofs.Members.{Member, kept_member, member_kept}
use Rattle.method.proofs.Bests.{best_none, Ranks, Best, best_least}
use Rattle.method.proofs.Orders.{Upto, upto_trans, strict, not_before}

-- an open place: neither level nor closed
pub record Open (m : Meaning) (s : State) (p : ℕ) : Type 0 where
  pub place_in : p < m.places
  pub not_level : s.g p ≡ rhs m s p → ⊥
  pub free : s.closed p ≡ false

module _ (m : Meaning) (s : State) (p : ℕ) where
  pub open_listed : Open m s p → Member p (open_places m s)
  unfolding is_open
  open_listed o = kept_member (is_open m s) 0 m.places p (omega arith) (omega (arith, o.place_in)) (and_from _ _ (not_from_false _ (ne_eqb _ _ o.not_level)) (not_from_false _ o.free))

  pub listed_open : Member p (open_places m s) → Open m s p
  unfolding is_open
  listed_open h =
      let k = member_kept (is_open m s) 0 m.places p h in
      let both = and_parts (not (level m s p)) (not (s.closed p)) k.passes in
      record { place_in = omega (arith, k.upto); not_level = eqb-false _ _ (not-true _ both.0); free = not-true _ both.1 }

before_upto : (k l : Key) → before k l ≡ true → Upto k l
before_upto k l h = let s = strict k l h in record { firsts = s.0; seconds = λ e. omega (arith, s.1 e) }

upto_self : (k : Key) → Upto k k
upto_self k = record { firsts = omega arith; seconds = λ e. omega arith }

-- keys rank places
key_ranks : (key : ℕ → Key) → Ranks (λ q p. before (key q) (key p)) (λ p q. Upto (key p) (key q))
key_ranks key = record {
  same = λ p. upto_self (key p);
  wins = λ q p h. before_upto (key q) (key p) h;
  holds = λ q p h. not_before (key p) (key q) h;
  carries = λ p q r h k. upto_trans h k;
}

pub soonest_none : (key : ℕ → Key) (xs : List ℕ) → soonest key xs ≡ None → (q : ℕ) → Member q xs → ⊥
soonest_none key xs e q h = best_none (λ q p. before (key q) (key p)) xs e q h

-- the place taken is one of them, and no key comes before its key
pub soonest_least : (key : ℕ → Key) (xs : List ℕ) (p : ℕ) → soonest key xs ≡ Some p → Best (λ p q. Upto (key p) (key q)) xs p
soonest_least key xs p e = best_least (λ q p. before (key q) (key p)) (λ p q. Upto (key p) (key q)) (key_ranks key) xs p e
