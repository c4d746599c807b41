use Rattle.std.proofs.Common.{◌≡◌, ◌∷◌, sym, ap, ◌∙◌, rules}
use Rattle.std.specs.Option.{option_map}
use Rattle.text.specs.Pieces.{fields_left}
use Rattle.text.proofs.Back.{next_field}
use Rattle.text.proofs.fields.FieldsIterator.next.Goals as goal

pub returns : goal.returns
returns c =
    let was = c.in_ok-self.was in
    let steps : c.args.self.now ≡ c.cut.result.0.now ∷ fields_left (option_map (λ r. r.now) c.cut.result.1) =
    sym c.self.view_is ∙ ap (λ o. fields_left (option_map (λ r. r.now) o)) was ∙ next_field _ _ _ c.cut.ensures.before c.cut.ensures.after in
    record { steps = steps; goes = rw steps (search rules) }
