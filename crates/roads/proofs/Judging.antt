-- Why a net or its heights are declined.
use Rattle.std.proofs.Common.{◌≡◌, ℕ, List, subst, arith}
use Rattle.arcs.specs.Nets.{NoNet}
use Rattle.arcs.specs.Nets.{many, unlawful as not_lawful}
use Rattle.arcs.specs.declared.net.Net.{Net}
use Rattle.roads.specs.Loads.{Declined, Fits, LowestSteep, Own, Within}
use Rattle.roads.specs.Loads.{outside, steep, unlawful}
use Rattle.terms.specs.declared.arc.Arc.{Arc}
use Rattle.terms.specs.declared.refusal.Refusal.{Refusal}
use Rattle.terms.specs.declared.refusal.Refusal.TheVariants.{Outside, HeightStep}

module _ (n : ℕ) (arcs : List Arc) (hs : List ℕ) (own : Own) (fits : Fits n arcs hs own) where
  pub no_net : (e : Refusal) → NoNet n arcs e → Declined n arcs hs own e
  no_net e (not_lawful j l) = unlawful j fits l
  no_net e (many a m) = outside fits a (λ w. omega (arith, w.few_arcs))

  module _ (net : Net) (made : (net.places ≡ n) × (net.arcs.now ≡ arcs)) where
    -- what holds of the net holds of the arcs that it was made of
    along : (P : ℕ → List Arc → Type 0) → P net.places net.arcs.now → P n arcs
    along P p = subst (P n) made.1 (subst (λ (m : ℕ). P m net.arcs.now) made.0 p)

    pub too_large : (Within net.places net.arcs.now hs → ⊥) → Declined n arcs hs own Outside
    too_large large = along (λ n arcs. Fits n arcs hs own → Declined n arcs hs own Outside) (λ f. outside f net.lawful large) fits

    pub too_steep : Within net.places net.arcs.now hs → (j : ℕ) → LowestSteep net.arcs.now hs j → Declined n arcs hs own (HeightStep j)
    too_steep within j low = along (λ n arcs. Fits n arcs hs own → Declined n arcs hs own (HeightStep j)) (λ f. steep j f net.lawful within low) fits
