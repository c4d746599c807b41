-- What asking for a slack answers. Assumes nothing.
use Rattle.std.specs.Prelude.{◌≡◌, ℕ, ◌≤◌, Ok, Err, Result}
use Rattle.terms.specs.declared.refusal.Refusal.{Refusal}
use Rattle.terms.specs.declared.refusal.Refusal.TheVariants.{StretchOutside}
use Rattle.terms.specs.declared.slack.Slack.{Slack}

-- so many sixteenths are a slack
abbrev pub InRange : ℕ → Type 0
InRange k = (16 ≤ k) × (k ≤ 160)

-- the slack of k sixteenths where k is in range, and else the refusal
abbrev pub SlackFor : ℕ → Result Slack Refusal → Type 0
SlackFor k (Ok s) = InRange k × (s.sixteenths ≡ k)
SlackFor k (Err e) = (InRange k → ⊥) × (e ≡ StretchOutside)
