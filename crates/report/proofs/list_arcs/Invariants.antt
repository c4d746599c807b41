use Rattle.std.proofs.Common.{◌≡◌, ◌++◌, drop, string_bytes}
use Rattle.report.specs.Reports.{arcs_text}
use Rattle.report.proofs.list_arcs.Given as goal

abbrev pub invariant-loop-number : goal.invariant-loop-number
invariant-loop-number l =
    string_bytes l.out ++ arcs_text l.number-counter (drop l.number-counter l.arcs) ≡ string_bytes l.initial.out ++ arcs_text 0 l.arcs
