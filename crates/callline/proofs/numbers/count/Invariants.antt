use Rattle.std.proofs.Common.{◌≡◌, ◌+◌, length}
use Rattle.std.specs.Option.{option_map}
use Rattle.text.specs.Pieces.{fields_of}
use Rattle.callline.specs.CallLines.{numbers_in}
use Rattle.callline.proofs.numbers.count.Given as goal

abbrev pub invariant-loop-field : goal.invariant-loop-field
invariant-loop-field l =
    (goal.iterator-loop-field).can_next l.field-iterator ×
    (goal.iterator-loop-field).is_finite l.field-iterator ×
    (l.count + length l.field-iterator ≡ length (fields_of l.text)) ×
    (option_map length (numbers_in (fields_of l.text)) ≡ option_map (λ ns. l.count + length ns) (numbers_in l.field-iterator))
