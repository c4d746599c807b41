use Rattle.std.proofs.Common.{◌≡◌, ◌++◌, take}
use Rattle.std.specs.Option.{option_map}
use Rattle.text.specs.Pieces.{fields_of}
use Rattle.callline.specs.CallLines.{numbers_in}
use Rattle.callline.proofs.numbers.read.Given as goal

abbrev pub invariant-loop-place : goal.invariant-loop-place
invariant-loop-place l =
    (goal.iterator-loop-place).can_next l.fields ×
    (goal.iterator-loop-place).is_finite l.fields ×
    (numbers_in (fields_of l.text) ≡ option_map (λ ns. take l.place-index l.list ++ ns) (numbers_in l.fields))
