-- The numbers that fields write: how many there are. Assumes nothing.
use Rattle.std.proofs.Common.{◌≡◌, ℕ, ◌+◌, ◌≤◌, Bool, true, false, cond, ◌&&◌, List, [], ◌∷◌, length, is_ok, Some, None, Ok, Err, Option, Result, refl, ◌∙◌, arith}
use Rattle.std.specs.List.{list_all}
use Rattle.std.specs.Option.{option_map}
use Rattle.std.proofs.lemmas.List.Splits.{length-slice_split}
use Rattle.std.proofs.lemmas.List.Sums.{count_by-le-length}
use Rattle.terms.specs.declared.fault.NumberFault.{NumberFault}
use Rattle.text.specs.Numbers.{number_of}
use Rattle.text.specs.Pieces.{fields_of}
use Rattle.callline.specs.CallLines.{and_these, numbers_in}

abbrev pub reads : List ℕ → Bool
reads field = is_ok (number_of field)

pub counted : (fields : List (List ℕ)) → option_map length (numbers_in fields) ≡ cond (list_all reads fields) (Some (length fields)) None
counted [] = refl
counted (field ∷ fields) = first (number_of field) (numbers_in fields) (list_all reads fields) (counted fields)
  where
    first : (r : Result ℕ NumberFault) (o : Option (List ℕ)) (b : Bool) → option_map length o ≡ cond b (Some (length fields)) None → option_map length (and_these r o) ≡ cond (is_ok r && b) (Some (length (field ∷ fields))) None
    first (Ok n) None true e = cc
    first (Ok n) None false e = refl
    first (Ok n) (Some ns) true e = cc
    first (Ok n) (Some ns) false e = cc
    first (Err fault) o b e = refl

pub some_counted : (line : List ℕ) (k : ℕ) → Some k ≡ option_map length (numbers_in (fields_of line)) → 1 ≤ k
some_counted line k e = by (list_all reads (fields_of line)) (e ∙ counted (fields_of line))
  where
    by : (b : Bool) → Some k ≡ cond b (Some (length (fields_of line))) None → 1 ≤ k
    by true h = let is : k ≡ length (fields_of line) = cc in omega (arith, length-slice_split {X = ℕ})
    by false h = cc

pub fields_few : (line : List ℕ) → length (fields_of line) ≤ length line + 1
fields_few line = omega (arith, length-slice_split {X = ℕ}, count_by-le-length {X = ℕ})
