use Rattle.std.proofs.Common.{◌≡◌, ℕ, None, Option, true, false, sym, subst, arith, rules}
use Rattle.std.proofs.lemmas.Iterator.{IsFirst-from_position, YieldsList-from_slice}
use borrow.Author.Tests.{tests}
use Rattle.queue.specs.Content.{item_of}
use Rattle.queue.specs.Sound.{under, Found}
use Rattle.queue.proofs.Finds.{absent_past, found_first}
use Rattle.queue.proofs.slots.find.Goals as goal

pub returns-in_err-home : goal.returns-in_err-home
returns-in_err-home g c =
    let none : c.from_residual.result ≡ None = search rules in
    subst (λ (r : Option ℕ). Found c.args.es.now c.args.number r) (sym none) (λ homed s. absent_past _ _ s (omega (arith, c.in_err-home.ensures)))

pub returns-then-is_strayed : goal.returns-then-is_strayed
returns-then-is_strayed g c =
    let n = c.args.number in
    let first = IsFirst-from_position _ _ c.position.result (λ e. under (item_of e) n ≡ true) (λ e. under (item_of e) n ≡ false) c.position.ensures.ran (YieldsList-from_slice c.args.es.now cc) (λ x q k. search (rules, tests)) (λ x q k. search (rules, tests)) in
    found_first _ _ _ first
