-- Cases whose answers are known beforehand, as facts about the definitions. Assumes nothing.
use Rattle.std.specs.Prelude.{true, List, [], ◌∷◌, ◌≡◌, ℕ, ◌-◌, get_or}
use Rattle.terms.specs.Amounts.{far, ◌⊕◌}
use Rattle.terms.specs.Slacks.{InRange}
use Rattle.ground.specs.Meanings.{Meaning}
use Rattle.grid.specs.Grids.{estimated}
use Rattle.method.specs.States.{State}
use Rattle.method.specs.Keys.{before, over_key, under_key}
use Rattle.method.specs.Calls.{Call, set_cost, search_for, outcome}
use Rattle.method.specs.Pasts.{Begin, begun}

-- the sample site: four places and four arcs, with estimates from a survey at place 0
abbrev pub heights : List ℕ
heights = 0 ∷ 4 ∷ 2 ∷ 9 ∷ []

abbrev pub site : Meaning
site = record {
  places = 4;
  arcs = 4;
  tail = λ j. get_or (0 ∷ 1 ∷ 0 ∷ 2 ∷ []) j 0;
  head = λ j. get_or (1 ∷ 3 ∷ 2 ∷ 3 ∷ []) j 0;
  least = λ j. get_or (4 ∷ 5 ∷ 2 ∷ 9 ∷ []) j 0;
  estimate = λ a s. get_or heights s 0 - get_or heights a 0;
}

-- a plan from place 0 to place 3 at slack 32
abbrev pub drive : Begin
drive = record { here = 0; landing = 3; slack = 32 }

-- the state after these calls, the first of them first
abbrev pub after : State → List Call → State
after s [] = s
after s (call ∷ calls) = after (outcome site s call).after calls

-- the values of the four places
abbrev pub values : State → List ℕ
values s = s.g 0 ∷ s.g 1 ∷ s.g 2 ∷ s.g 3 ∷ []

pub record KnownCases : Type 0 where
  -- over a base of 1, differences of 3 and 5 are estimated at 31
  pub estimate_far : (estimated 1 3 5 ≡ 31) × (estimated 1 5 3 ≡ 31)
  -- no difference is estimated at 0
  pub estimate_none : (base : ℕ) → estimated base 0 0 ≡ 0
  -- far and 1 is far
  pub far_stays : far ⊕ 1 ≡ far
  -- an over place with rhs 5 and estimate 4 at slack 32, and an under place with value 5 and estimate 4
  pub over_key_case : over_key 32 5 4 ≡ record { first = 208; second = 5 }
  pub under_key_case : under_key 5 4 ≡ record { first = 144; second = 5 }
  -- equal first numbers leave it to the second
  pub second_decides : before (record { first = 208; second = 5 }) (record { first = 208; second = 9 }) ≡ true
  -- 16 and 160 sixteenths are slacks, 15 and 161 are not
  pub slack_ends : InRange 16 × InRange 160 × (InRange 15 → ⊥) × (InRange 161 → ⊥)
  -- after the first search
  pub first_search : values (after (begun site drive) (search_for 9 ∷ [])) ≡ 9 ∷ 5 ∷ far ∷ 0 ∷ []
  -- one turn after arc 1 came to cost 20
  pub after_the_cut : values (after (begun site drive) (search_for 9 ∷ set_cost 1 20 ∷ search_for 1 ∷ [])) ≡ 9 ∷ far ∷ far ∷ 0 ∷ []
