use Rattle.std.proofs.Common.{◌≡◌, ℕ, ◌-◌, ◌≤◌, true, false, ltb, length, get_or, take, drop, Ok, Err, Result, sym, ap, ◌∙◌, arith}
use Rattle.std.proofs.lemmas.Result.{err_from_is_err_and}
use Rattle.std.proofs.lemmas.Bool.{ltb-false, or_parts}
use Rattle.terms.specs.declared.refusal.Refusal.{Refusal}
use Rattle.method.specs.Calls.{capped_sum, sums}
use Rattle.method.specs.Turns.{all_of}
use Rattle.plan.proofs.Admitting.{begun_is, one_header}
use Rattle.plan.proofs.Fronting.{part_at, part_size}
use Rattle.plan.proofs.Summing.{sum_refused, sum_told, sum_declines_lem, totalled, total_err, total_ok}
use Rattle.plan.proofs.plan.Plan.sum.Goals as goal

pub returns-in_err-sum : goal.returns-in_err-sum
returns-in_err-sum c =
    let p = err_from_is_err_and c.from_residual-in_err-sum.result c.from_residual-in_err-sum.ensures.1 in
    let h = c.in_ok-header.header in
    let costs = c.args.costs.now in
    let js = c.args.arcs.now in
    let is = begun_is c.args.self.now.header h c.in_ok-header.ensures in
    let room : h.arcs ≤ length costs = ltb-false _ _ (or_parts _ _ (sym c.if-is_short.ensures)).0 in
    let total : ◌≡◌ {A = Result ℕ Refusal} (Err c.in_err-sum.field-0.0) (totalled (take (h.arcs - 0) (drop 0 costs)) js) = c.in_err-sum.ensures in
    let out = total_err (all_of (λ j. ltb j (length (take (h.arcs - 0) (drop 0 costs)))) js) (capped_sum (λ j. get_or (take (h.arcs - 0) (drop 0 costs)) j 0) js) c.in_err-sum.field-0.0 total in
    rw (p.1, p.2, out.1) record {
      declined = sym (sum_declines_lem c.args.self.now.header h (length costs) js false is (sym c.if-is_short.ensures) (ap (λ n. all_of (λ j. ltb j n) js) (sym (part_size h.arcs costs room)) ∙ out.0));
      state = λ m places queue s few held.
          let same = one_header c.args.self.now.header h held.0 is held.1.begun in
          sum_refused m s held.0 _ held.1 (take (h.arcs - 0) (drop 0 costs)) (part_size h.arcs costs room ∙ ap (λ k. k.arcs) same ∙ held.1.same_arcs) (λ j k. part_at h.arcs costs 0 j (omega (arith, k, ap (λ x. x.arcs) same, held.1.same_arcs))) js out.0;
    }

pub returns : goal.returns
returns c =
    let h = c.in_ok-header.header in
    let costs = c.args.costs.now in
    let js = c.args.arcs.now in
    let is = begun_is c.args.self.now.header h c.in_ok-header.ensures in
    let room : h.arcs ≤ length costs = ltb-false _ _ (or_parts _ _ (sym c.if-is_short.ensures)).0 in
    let total : ◌≡◌ {A = Result ℕ Refusal} (Ok c.in_ok-sum.sum) (totalled (take (h.arcs - 0) (drop 0 costs)) js) = c.in_ok-sum.ensures in
    let out = total_ok (all_of (λ j. ltb j (length (take (h.arcs - 0) (drop 0 costs)))) js) (capped_sum (λ j. get_or (take (h.arcs - 0) (drop 0 costs)) j 0) js) c.in_ok-sum.sum total in
    record {
      declined = sym (sum_declines_lem c.args.self.now.header h (length costs) js true is (sym c.if-is_short.ensures) (ap (λ n. all_of (λ j. ltb j n) js) (sym (part_size h.arcs costs room)) ∙ out.0));
      state = λ m places queue s few held.
          let same = one_header c.args.self.now.header h held.0 is held.1.begun in
          let said = sum_told m s held.0 _ held.1 (take (h.arcs - 0) (drop 0 costs)) (part_size h.arcs costs room ∙ ap (λ k. k.arcs) same ∙ held.1.same_arcs) (λ j k. part_at h.arcs costs 0 j (omega (arith, k, ap (λ x. x.arcs) same, held.1.same_arcs))) js out.0 in
          (ap sums out.1 ∙ said.0, said.1);
    }
