-- Roads are lawful. Assumes nothing.
use Rattle.std.specs.Prelude.{ℕ, ◌≤◌, List, length}
use Rattle.std.proofs.Common.{arith}
use Rattle.arcs.specs.Tables.{AllLawful}
use Rattle.ground.specs.Meanings.{Lawful}
use Rattle.roads.specs.Heights.{LowHeights, Steps, roads_meaning}
use Rattle.terms.specs.declared.arc.Arc.{Arc}

pub roads_lawful : (n : ℕ) (arcs : List Arc) (heights : List ℕ) → n ≤ 16384 → length arcs ≤ 131072 → AllLawful n arcs → LowHeights n heights → Steps arcs heights → Lawful (roads_meaning n arcs heights)
roads_lawful n arcs heights few some lawful heights_low steps = record {
  few_places = few;
  few_arcs = some;
  tail_in = λ j h. (lawful j h).tail_in;
  head_in = λ j h. (lawful j h).head_in;
  least_low = λ j h. (lawful j h).least_low;
  least_high = λ j h. (lawful j h).least_high;
  estimate_high = λ a s h k. omega (arith, heights_low s k);
  estimate_self = λ a h. omega arith;
  estimate_step = λ a j h k. omega (arith, steps j k);
}
