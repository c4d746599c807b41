-- Calls written out as lines, and the law that they read back. Assumes nothing.
use Rattle.std.specs.Prelude.{◌≡◌, ℕ, ◌≤◌, min, List, [], ◌∷◌, ◌++◌, length, All, Some, Ok, decimal, Result}
use Rattle.terms.specs.Amounts.{far}
use Rattle.terms.specs.declared.call.Call.{Call}
use Rattle.terms.specs.declared.call.Call.TheVariants.{Begin, Set, Move, Stretch, Search, Route, Sum}
use Rattle.terms.specs.declared.refusal.Refusal.{Refusal}
use Rattle.callline.specs.CallLines.{Typed, told, list_with}

-- numbers in decimal, a space before each
abbrev pub spaced : List ℕ → List ℕ
spaced [] = []
spaced (n ∷ ns) = 32 ∷ (decimal n ++ spaced ns)

-- the line of a call: its letter and its numbers
abbrev pub line_of : Typed → List ℕ
line_of (Begin here landing slack) = 98 ∷ spaced (here ∷ landing ∷ slack ∷ [])
line_of (Set arc cost) = 99 ∷ spaced (arc ∷ cost ∷ [])
line_of (Move place) = 104 ∷ spaced (place ∷ [])
line_of (Stretch slack) = 115 ∷ spaced (slack ∷ [])
line_of (Search turns) = 114 ∷ spaced (turns ∷ [])
line_of Route = 112 ∷ []
line_of (Sum arcs) = 116 ∷ spaced arcs

-- the numbers of a call can be typed, and its arcs have room in a list of so many entries
abbrev pub Typable : ℕ → Typed → Type 0
Typable room (Begin here landing slack) = (here ≤ far) × (landing ≤ far) × (slack ≤ far)
Typable room (Set arc cost) = (arc ≤ far) × (cost ≤ far)
Typable room (Move place) = place ≤ far
Typable room (Stretch slack) = slack ≤ far
Typable room (Search turns) = turns ≤ 65535
Typable room Route = Unit {0}
Typable room (Sum arcs) = (1 ≤ length arcs) × (length arcs ≤ min 256 room) × All (λ arc. arc ≤ far) arcs

-- a call that was written out is read back as that call, its arcs at the front of the list
abbrev pub ReadsBack : List ℕ → List ℕ → Result (Call ℕ) Refusal → List ℕ → Type 0
ReadsBack line was answer list =
    (call : Typed) → line ≡ line_of call → Typable (length was) call → (answer ≡ Ok (told call)) × (list ≡ list_with (Some call) was)
