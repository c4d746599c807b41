-- When Begin is accepted. Assumes nothing.
use Rattle.std.proofs.Common.{◌≡◌, ℕ, Bool, true, false, cond, ltb, leb, Some, None, refl, ap, ◌∙◌, arith}
use Rattle.std.proofs.lemmas.Bool.{and_parts, and_from, cond-true, ltb-true, leb-true, lt-ltb, le-leb}
use Rattle.terms.specs.declared.refusal.Refusal.{Refusal}
use Rattle.terms.specs.declared.refusal.Refusal.TheVariants.{NoSuchPlace, StretchOutside, TableShort}
use Rattle.method.specs.Handed.{is_short, BeginLaw}

-- three tests in a row, each with its refusal
through : (a b c : Bool) (x y z : Refusal) → cond a (cond b (cond c (Some z) None) (Some y)) (Some x) ≡ None → (a ≡ true) × (b ≡ true) × (c ≡ false)
through true true false x y z e = (refl, refl, refl)
through true true true x y z e = absurd (let n : ◌≡◌ {A = ℕ} 0 1 = cc in omega arith)
through true false c x y z e = absurd (let n : ◌≡◌ {A = ℕ} 0 1 = cc in omega arith)
through false b c x y z e = absurd (let n : ◌≡◌ {A = ℕ} 0 1 = cc in omega arith)

pub begin_law : BeginLaw
begin_law m b lent = (
  λ none.
      let all = through _ _ (is_short lent) NoSuchPlace StretchOutside TableShort none in
      let places = and_parts (ltb b.here m.places) (ltb b.landing m.places) all.0 in
      let slack = and_parts (leb 16 b.slack) (leb b.slack 160) all.1 in
      (record { here_within = ltb-true _ _ places.0; landing_within = ltb-true _ _ places.1; slack_low = leb-true _ _ slack.0; slack_high = leb-true _ _ slack.1 }, all.2),
  λ ok.
      cond-true _ _ _ (and_from _ _ (lt-ltb _ _ ok.0.here_within) (lt-ltb _ _ ok.0.landing_within))
      ∙ cond-true _ _ _ (and_from _ _ (le-leb _ _ ok.0.slack_low) (le-leb _ _ ok.0.slack_high))
      ∙ ap (λ c. cond c (Some TableShort) None) ok.1,
)
