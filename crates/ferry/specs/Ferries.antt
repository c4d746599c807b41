-- What a ferry means, and that it is lawful. Assumes nothing.
use Rattle.std.proofs.Common.{arith}
use Rattle.std.specs.Prelude.{◌-◌, refl}
use Rattle.ground.specs.Meanings.{Meaning, Lawful}

-- two banks, 0 and 1; arc 0 leads over, and arc 1 back
abbrev pub crossing : Meaning
crossing = record {
  places = 2;
  arcs = 2;
  tail = λ j. j;
  head = λ j. 1 - j;
  least = λ j. 100;
  estimate = λ a s. 0;
}

pub crossing_lawful : Lawful crossing
crossing_lawful = record {
  few_places = omega arith;
  few_arcs = omega arith;
  tail_in = λ j h. h;
  head_in = λ j h. omega arith;
  least_low = λ j h. omega arith;
  least_high = λ j h. omega arith;
  estimate_high = λ a s h k. omega arith;
  estimate_self = λ a h. refl;
  estimate_step = λ a j h k. omega arith;
}
