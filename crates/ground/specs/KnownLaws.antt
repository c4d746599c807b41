-- How to read an answer that is there or not. Assumes nothing.
use Rattle.std.specs.Prelude.{◌≡◌, ℕ, Bool, true, false, Some, None, Option, ◌≢◌, refl}
use Rattle.ground.specs.Questions.{known}

-- an answer is something or nothing
pub not_both : (v : Option ℕ) (x : ℕ) → v ≡ Some x → v ≢ None
not_both v x p q = cc

-- and it is one thing
pub one_answer : (v : Option ℕ) (x y : ℕ) → v ≡ Some x → v ≡ Some y → x ≡ y
one_answer v x y p q = cc

pub known_some : (b : Bool) (v x : ℕ) → known b v ≡ Some x → (b ≡ true) × (x ≡ v)
known_some true v x e = (refl, cc)
known_some false v x e = cc

pub known_none : (b : Bool) (v : ℕ) → known b v ≡ None → b ≡ false
known_none true v e = cc
known_none false v e = refl

pub known_there : (b : Bool) (v : ℕ) → b ≡ true → known b v ≡ Some v
known_there true v e = refl
known_there false v e = cc

pub known_absent : (b : Bool) (v : ℕ) → b ≡ false → known b v ≡ None
known_absent false v e = refl
known_absent true v e = cc
