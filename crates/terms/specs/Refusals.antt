-- The number of each refusal. Assumes nothing.
use Rattle.std.specs.Prelude.{ℕ}
use Rattle.terms.specs.declared.refusal.Refusal.{Refusal}
use Rattle.terms.specs.declared.refusal.Refusal.TheVariants.{NotBegun, OtherGround, NoSuchPlace, StretchOutside, TableShort, NoSuchArc, CostOutside, NotSettled, NoWay, ListShort, Sheet, ArcUnlawful, Outside, HeightStep, NotReached, QueueFull, NoCall}

abbrev pub number_of : Refusal → ℕ
number_of NotBegun = 1
number_of OtherGround = 2
number_of NoSuchPlace = 3
number_of StretchOutside = 4
number_of TableShort = 5
number_of NoSuchArc = 6
number_of CostOutside = 7
number_of NotSettled = 8
number_of NoWay = 9
number_of ListShort = 10
number_of (Sheet fault) = 11
number_of (ArcUnlawful arc) = 12
number_of Outside = 13
number_of (HeightStep arc) = 14
number_of (NotReached place) = 15
number_of QueueFull = 16
number_of NoCall = 17
