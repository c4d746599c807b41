-- Faults on their way up. Assumes nothing.
use Rattle.std.specs.Prelude.{ℕ, Ok, Err, Result}
use Rattle.terms.specs.declared.fault.At.{At}

-- a result with the number of its field or line at its fault
abbrev pub placed_at : {X F : Type 0} → ℕ → Result X F → Result X (At F)
placed_at k (Ok x) = Ok x
placed_at k (Err fault) = Err (record { number = k; fault = fault })
