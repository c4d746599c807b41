-- Faults and refusals in a driver's words. Assumes nothing.
use Rattle.std.specs.Prelude.{ℕ, List, ◌++◌, codes, decimal}
use Rattle.terms.specs.declared.fault.NumberFault.{NumberFault}
use Rattle.terms.specs.declared.fault.NumberFault.TheVariants.{Empty, NotADigit, TooLarge}
use Rattle.terms.specs.declared.fault.LineFault.{LineFault}
use Rattle.terms.specs.declared.fault.LineFault.TheVariants.{Field, WrongCount, Names}
use Rattle.terms.specs.declared.fault.SheetFault.{SheetFault}
use Rattle.terms.specs.declared.refusal.Refusal.{Refusal}
use Rattle.terms.specs.declared.refusal.Refusal.TheVariants.{NotBegun, OtherGround, NoSuchPlace, StretchOutside, TableShort, NoSuchArc, CostOutside, NotSettled, NoWay, ListShort, Sheet, ArcUnlawful, Outside, HeightStep, NotReached, QueueFull, NoCall}

abbrev pub number_fault_words : NumberFault → List ℕ
number_fault_words Empty = codes "nothing stands here; single spaces part the numbers"
number_fault_words NotADigit = codes "not a whole number; only the digits 0 to 9 may stand here"
number_fault_words TooLarge = codes "too large; at most 4294967295, in at most 10 digits"

abbrev pub line_fault_words : LineFault → List ℕ
line_fault_words (Field field fault) = codes "field " ++ (decimal field ++ (codes ": " ++ number_fault_words fault))
line_fault_words WrongCount = codes "a line of values has exactly three numbers, parted by single spaces"
line_fault_words Names = codes "the first line has the names from, to and least, in any order, parted by single spaces"

abbrev pub sheet_fault_words : SheetFault → List ℕ
sheet_fault_words fault = codes "line " ++ (decimal fault.line ++ (codes ": " ++ line_fault_words fault.fault))

abbrev pub refusal_words : Refusal → List ℕ
refusal_words NotBegun = codes "no plan has begun"
refusal_words OtherGround = codes "the plan began on another ground"
refusal_words NoSuchPlace = codes "there is no such place"
refusal_words StretchOutside = codes "the slack is not 16 to 160 sixteenths"
refusal_words TableShort = codes "there is more than the table holds"
refusal_words NoSuchArc = codes "there is no such arc"
refusal_words CostOutside = codes "the cost is neither 0 nor from the arc's least cost to 10000"
refusal_words NotSettled = codes "the search has not settled"
refusal_words NoWay = codes "no open way leads to the landing"
refusal_words ListShort = codes "the route has more arcs than the list"
refusal_words (Sheet fault) = sheet_fault_words fault
refusal_words (ArcUnlawful arc) = codes "arc " ++ (decimal arc ++ codes " has an end or a least cost outside its limits")
refusal_words Outside = codes "a number is past its limit"
refusal_words (HeightStep arc) = codes "arc " ++ (decimal arc ++ codes " climbs by more than its least cost")
refusal_words (NotReached place) = codes "no chain reaches place " ++ decimal place
refusal_words QueueFull = codes "the queue is full"
refusal_words NoCall = codes "no call has this form"
