-- What a line of the cab program says: a call with its numbers, or nothing. Assumes nothing.
use Rattle.std.specs.Prelude.{ℕ, ◌≤◌, min, cond, ◌||◌, List, [], ◌∷◌, ◌++◌, length, drop, Some, None, Ok, Err, Option, Result, ◌==◌, nat_lt}
use Rattle.std.specs.Option.{option_map, option_and_then, ok_or}
use Rattle.terms.specs.declared.call.Call.{Call}
use Rattle.terms.specs.declared.call.Call.TheVariants.{Begin, Set, Move, Stretch, Search, Route, Sum}
use Rattle.terms.specs.declared.fault.NumberFault.{NumberFault}
use Rattle.terms.specs.declared.refusal.Refusal.{Refusal}
use Rattle.terms.specs.declared.refusal.Refusal.TheVariants.{NoCall}
use Rattle.text.specs.Numbers.{number_of}
use Rattle.text.specs.Pieces.{fields_of}

-- a call as a line says it, with its arcs themselves
abbrev pub Typed : Type 0
Typed = Call (List ℕ)

-- a number before others, unless one is missing
abbrev pub and_these : Result ℕ NumberFault → Option (List ℕ) → Option (List ℕ)
and_these (Ok n) (Some ns) = Some (n ∷ ns)
and_these (Ok n) None = None
and_these (Err fault) ns = None

-- the numbers that fields write, if each writes one
abbrev pub numbers_in : List (List ℕ) → Option (List ℕ)
numbers_in [] = Some []
numbers_in (field ∷ fields) = and_these (number_of field) (numbers_in fields)

-- the numbers, if there are just n
abbrev pub exactly : ℕ → List ℕ → Option (List ℕ)
exactly n numbers = cond (length numbers == n) (Some numbers) None

-- more than 65,535 turns are no form
abbrev pub search_of : ℕ → Option Typed
search_of turns = cond (nat_lt 65535 turns) None (Some (Search turns))

-- the call of a letter that comes with one number: h, s, r
abbrev pub form_of_one : ℕ → ℕ → Option Typed
form_of_one letter n =
    cond (letter == 104) (Some (Move n)) (cond (letter == 115) (Some (Stretch n)) (cond (letter == 114) (search_of n) None))

-- the call of a letter that comes with a fixed count of numbers: b with three, c with two
abbrev pub form_of : ℕ → List ℕ → Option Typed
form_of letter [] = None
form_of letter (n ∷ []) = form_of_one letter n
form_of letter (arc ∷ cost ∷ []) = cond (letter == 99) (Some (Set arc cost)) None
form_of letter (here ∷ landing ∷ slack ∷ []) = cond (letter == 98) (Some (Begin here landing slack)) None
form_of letter (n₁ ∷ n₂ ∷ n₃ ∷ n₄ ∷ more) = None

-- one arc at least, and no more than 256 or than the list has room for
abbrev pub sum_of : ℕ → List ℕ → Option Typed
sum_of room arcs = cond (length arcs == 0 || nat_lt (min 256 room) (length arcs)) None (Some (Sum arcs))

-- the call of a letter and the numbers behind it; t comes with arcs
abbrev pub call_of : ℕ → ℕ → List ℕ → Option Typed
call_of room letter numbers = cond (letter == 116) (sum_of room numbers) (form_of letter numbers)

-- the call that a line says, its arcs for a list of `room` entries: p alone, or a letter, a space, and numbers parted by single spaces
unfoldable pub call_in : ℕ → List ℕ → Option Typed
call_in room [] = None
call_in room (letter ∷ []) = cond (letter == 112) (Some Route) None
call_in room (letter ∷ next ∷ rest) =
    cond (next == 32) (option_and_then (call_of room letter) (numbers_in (fields_of rest))) None

-- how the reader tells a call: of arcs it says how many there are
abbrev pub told : Typed → Call ℕ
told (Begin here landing slack) = Begin here landing slack
told (Set arc cost) = Set arc cost
told (Move place) = Move place
told (Stretch slack) = Stretch slack
told (Search turns) = Search turns
told Route = Route
told (Sum arcs) = Sum (length arcs)

-- what the reader answers
abbrev pub answer_of : Option Typed → Result (Call ℕ) Refusal
answer_of call = ok_or (option_map told call) NoCall

-- the arcs that a call comes with
abbrev pub arcs_in : Option Typed → List ℕ
arcs_in None = []
arcs_in (Some (Begin here landing slack)) = []
arcs_in (Some (Set arc cost)) = []
arcs_in (Some (Move place)) = []
arcs_in (Some (Stretch slack)) = []
arcs_in (Some (Search turns)) = []
arcs_in (Some Route) = []
arcs_in (Some (Sum arcs)) = arcs

-- the list after the reader: the call's arcs stand at its front, and all else is as it was
abbrev pub list_with : Option Typed → List ℕ → List ℕ
list_with call list = arcs_in call ++ drop (length (arcs_in call)) list

-- as many arcs as a Sum tells are in the list, and no more than 256
abbrev pub Within : ℕ → Call ℕ → Type 0
Within room (Begin here landing slack) = Unit {0}
Within room (Set arc cost) = Unit {0}
Within room (Move place) = Unit {0}
Within room (Stretch slack) = Unit {0}
Within room (Search turns) = Unit {0}
Within room Route = Unit {0}
Within room (Sum arcs) = (1 ≤ arcs) × (arcs ≤ 256) × (arcs ≤ room)
