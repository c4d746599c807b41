-- Two tables, whatever they hold, are an index of no arcs between no places. Assumes nothing.
use Rattle.std.proofs.Common.{◌≡◌, ℕ, [], List, length, ap, sym, subst, arith}
use Rattle.arcs.proofs.Groups.{group_none}
use Rattle.arcs.specs.Index.{Indexed}
use Rattle.arcs.specs.Nets.{IndexedBy}
use Rattle.arcs.specs.Tables.{end_at}
use Rattle.arcs.specs.declared.net.Net.{Net}
use Rattle.ground.specs.declared.end.End.{End}
use Rattle.terms.specs.declared.arc.Arc.{Arc}

none_indexed : (end : End) (ends order : List ℕ) → Indexed (end_at end []) 0 0 ends order
none_indexed end ends order =
    record {
      inside = λ j h. absurd (omega arith);
      places = omega arith;
      arcs = omega arith;
      ends_right = λ p h. absurd (omega arith);
      order_right = λ p k h. absurd (omega (arith, ap length (group_none (end_at end []) p)));
    }

pub empty_tables : (end : End) (net : Net) (ends order : List ℕ) → net.places ≡ 0 → net.arcs.now ≡ [] → IndexedBy end net ends order
empty_tables end net ends order none no_arcs =
    subst (λ (arcs : List Arc). Indexed (end_at end arcs) (length arcs) net.places ends order) (sym no_arcs)
    (subst (λ (n : ℕ). Indexed (end_at end []) 0 n ends order) (sym none) (none_indexed end ends order))
