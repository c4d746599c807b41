-- The least sums from a place, and heights made of them, as functions. Assumes nothing.
use Rattle.std.specs.Prelude.{◌≡◌, ℕ, zero, suc, ◌-◌, ◌<◌, ◌≤◌, Bool, ◌&&◌, ◌||◌, List, find, is_some, map, Some, None, Option, unwrap_or, ◌==◌, nat_le, nat_lt, if◌then◌else◌}
use Rattle.arcs.specs.Tables.{AllLawful}
use Rattle.ground.specs.Meanings.{Meaning}
use Rattle.ground.specs.Questions.{arcs_into}
use Rattle.std.specs.List.{list_all, list_any, range_with_len}
use Rattle.survey.specs.Sums.{flat, Apart, LeastSum}
use Rattle.terms.specs.declared.arc.Arc.{Arc}

-- Some chain of at most so many arcs from a place sums to v at p: it has no arc, or it ends with an arc into p. As every
-- arc costs 1 or more, v arcs are enough.
unfoldable pub sums_to : Meaning → ℕ → ℕ → ℕ → ℕ → Bool
sums_to g from zero v p = v == 0 && p == from
sums_to g from (suc k) v p = (v == 0 && p == from) || list_any (λ j. nat_le (g.least j) v && sums_to g from k (v - g.least j) (g.tail j)) (arcs_into g p)

-- the least sum from a place to p, as far as any height goes
unfoldable pub least_sum : Meaning → ℕ → ℕ → Option ℕ
least_sum g from p = find (λ v. sums_to g from v v p) (range_with_len 0 163830001)

-- every place below n has a least sum
unfoldable pub are_all_found : Meaning → ℕ → ℕ → Bool
are_all_found g from n = list_all (λ p. is_some (least_sum g from p)) (range_with_len 0 n)

-- the height of a place: its least sum, where every place has one, and else 0
unfoldable pub height_from : ℕ → List Arc → ℕ → ℕ → ℕ
height_from n arcs from p = if nat_lt p n && are_all_found (flat n arcs) from n then unwrap_or (least_sum (flat n arcs) from p) 0 else 0

-- so many heights: those of n places, and 0 beyond
unfoldable pub heights_from : ℕ → ℕ → List Arc → ℕ → List ℕ
heights_from size n arcs from = map (height_from n arcs from) (range_with_len 0 size)

-- On lawful arcs the function finds x exactly where x is the least sum, up to the highest height, and nothing where no
-- chain leads.
pub record FoundRight (n : ℕ) (arcs : List Arc) (from p : ℕ) : Type 0 where
  pub found_least : (x : ℕ) → least_sum (flat n arcs) from p ≡ Some x → LeastSum (flat n arcs) from p x
  pub least_found : (x : ℕ) → x ≤ 163830000 → LeastSum (flat n arcs) from p x → least_sum (flat n arcs) from p ≡ Some x
  pub apart_none : Apart (flat n arcs) from p → least_sum (flat n arcs) from p ≡ None

abbrev pub LeastSumLaw : Type 0
LeastSumLaw = (n : ℕ) (arcs : List Arc) (from p : ℕ) → AllLawful n arcs → from < n → FoundRight n arcs from p
