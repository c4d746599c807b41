-- Why there is nothing to measure.
use Rattle.std.proofs.Common.{ℕ, ◌<◌, List, arith}
use Rattle.arcs.specs.Nets.{NoNet}
use Rattle.arcs.specs.Nets.{many, unlawful as not_lawful}
use Rattle.survey.specs.Surveys.{Declined, Fits, Ready}
use Rattle.survey.specs.Surveys.{no_place, short, unlawful, outside}
use Rattle.survey.specs.declared.working.Working.{Working}
use Rattle.terms.specs.declared.arc.Arc.{Arc}
use Rattle.terms.specs.declared.refusal.Refusal.{Refusal}

module _ (from n : ℕ) (arcs : List Arc) (hs : List ℕ) (work : Working) where
  pub no_net : from < n → Fits n arcs hs work → (e : Refusal) → NoNet n arcs e → Declined from n arcs hs work e
  no_net there fits e (not_lawful j l) = unlawful j there fits l
  no_net there fits e (many a m) = outside there fits a (λ s. omega (arith, s.few_arcs))

  pub not_ready : (e : Refusal) → Declined from n arcs hs work e → Ready from n arcs hs work → ⊥
  not_ready e (no_place h) r = omega (arith, r.there)
  not_ready e (short l h) r = h r.fits
  not_ready e (unlawful j l f h) r = h.unlawful (r.lawful j h.there)
  not_ready e (outside l f a h) r = h r.small
