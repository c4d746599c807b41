use Rattle.std.proofs.Common.{◌≡◌, ◌<◌, ◌∷◌, length, refl, sym, ap, ◌∙◌, rules, arith}
use Rattle.std.proofs.lemmas.Bool.Decides.{nat_tests}
use Rattle.text.specs.Pieces.{lines_of}
use Rattle.text.proofs.Back.{next_line}
use Rattle.text.proofs.lines.LinesIterator.next.Goals as goal

pub returns : goal.returns
returns c =
    let some : 0 < length c.self.inside.rest.now = grind (arith, nat_tests) in
    let steps : c.args.self.now ≡ c.cut.result.0.now ∷ lines_of c.unwrap_or-self-inside.result.now =
    sym c.self.view_is ∙ next_line c.self.inside.rest.now c.cut.result.0.now c.cut.result.1 _ c.cut.ensures.before c.cut.ensures.after some refl ∙ ap (λ r. c.cut.result.0.now ∷ lines_of r.now) (sym c.unwrap_or-self-inside.ensures) in
    record { steps = steps; goes = rw steps (search rules) }
