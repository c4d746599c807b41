-- Heights that are copied into the front of a table.
use Rattle.std.proofs.Common.{◌≡◌, ℕ, ◌<◌, List, get_or, arith}
use Rattle.arcs.specs.Tables.{AllLawful, arc_at}
use Rattle.roads.specs.Heights.{LowHeights, Steps}
use Rattle.terms.specs.declared.arc.Arc.{Arc}

module _ (n : ℕ) (hs own : List ℕ) (copied_at : (p : ℕ) → p < n → get_or own p 0 ≡ get_or hs p 0) where
  pub copied_low : LowHeights n hs → LowHeights n own
  copied_low low p h = omega (arith, copied_at p h, low p h)

  pub copied_steps : (arcs : List Arc) → AllLawful n arcs → Steps arcs hs → Steps arcs own
  copied_steps arcs lawful steps j h = omega (arith, copied_at (arc_at arcs j).head (lawful j h).head_in, copied_at (arc_at arcs j).tail (lawful j h).tail_in, steps j h)
