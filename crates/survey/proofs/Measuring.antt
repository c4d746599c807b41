-- From sums to heights.
use Rattle.std.proofs.Common.{ℕ, List, get_or, Ok, Err, Result, sym, ap, subst, arith}
use Rattle.arcs.specs.Tables.{AllLawful, arc_at}
use Rattle.survey.specs.Sums.{flat, LeastSum, Surveyed}
use Rattle.survey.specs.Surveys.{HandedOver, Measured}
use Rattle.terms.specs.declared.arc.Arc.{Arc}
use Rattle.terms.specs.declared.refusal.Refusal.{Refusal}

module _ (from n : ℕ) (arcs : List Arc) (lawful : AllLawful n arcs) (sums heights heights' : List ℕ) (s : Surveyed (flat n arcs) from sums) where
  pub measured : (r : Result (Unit {0}) Refusal) → HandedOver sums heights heights' r → Measured from n arcs heights heights' r
  measured (Ok u) h = record {
    least = λ p k. subst (λ (xs : List ℕ). LeastSum (flat n arcs) from p (get_or xs p 0)) (sym h.1) (s.reached p k (h.0 p (omega (arith, s.size))));
    low = λ p k. omega (arith, ap (λ xs. get_or xs p 0) h.1, s.low p k (h.0 p (omega (arith, s.size))));
    steps = λ j k.
        let t = (arc_at arcs j).tail in
        omega (arith, ap (λ xs. get_or xs t 0) h.1, ap (λ xs. get_or xs (arc_at arcs j).head 0) h.1, s.steps j k (h.0 t (omega (arith, (lawful j k).tail_in))));
  }
  measured (Err e) h = (
    h.0,
    h.1,
    record {
      there = omega (arith, h.2, s.size);
      apart = s.apart h.0 (omega (arith, h.2, s.size)) h.3;
      lowest = λ q k. (get_or sums q 0, s.reached q (omega (arith, h.2, s.size)) (h.4 q k));
    },
    h.5,
  )
