-- What a result holds. Assumes nothing.
use Rattle.std.proofs.Common.{◌≡◌, Ok, Result}
use Rattle.terms.specs.declared.refusal.Refusal.{Refusal}
use Rattle.plan.specs.declared.header.Header.{Header}

pub ok_is : (a b : Header) → ◌≡◌ {A = Result Header Refusal} (Ok a) (Ok b) → a ≡ b
ok_is a b e = cc
