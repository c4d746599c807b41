use Rattle.std.proofs.Common.{◌≡◌, ℕ, None, Option, sym, subst, arith, rules}
use Rattle.queue.specs.Sound.{Chosen}
use Rattle.queue.proofs.Finds.{absent_past, absent_home, full_all, under_read, chosen_found, chosen_free, chosen_scanned}
use Rattle.queue.proofs.slots.choose.Goals as goal

pub returns-in_err-home : goal.returns-in_err-home
returns-in_err-home g c =
    let none : c.from_residual.result ≡ None = search rules in
    subst (λ (r : Option ℕ). Chosen c.args.es.now c.args.number r) (sym none) (full_all _ 0 (omega (arith, c.in_err-home.ensures)) (λ s l. absurd (omega arith)), λ homed s. absent_past _ _ s (omega (arith, c.in_err-home.ensures)))

pub returns-then-holds : goal.returns-then-holds
returns-then-holds g c =
    chosen_found _ _ _ (c.in_ok-home.ensures.0, under_read _ _ _ c.index-es-home.result _ c.in_ok-home.ensures.0 c.index-es-home.is c.if-holds.ensures)

pub returns-then-is_strayed : goal.returns-then-is_strayed
returns-then-is_strayed g c = chosen_scanned c.args.es.now c.args.number _ c.scan_both.ensures

pub returns-else-is_strayed : goal.returns-else-is_strayed
returns-else-is_strayed g c =
    let home = c.in_ok-home.ensures in
    chosen_free c.args.es.now c.args.number _
    (absent_home _ _ _ c.index-es-home-else-holds.result home.1 home.0
    (under_read _ _ _ c.index-es-home.result _ home.0 c.index-es-home.is c.if-holds.ensures) c.index-es-home-else-holds.is c.if-is_strayed.ensures)
    c.find_free.ensures
