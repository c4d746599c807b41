use Rattle.std.proofs.Common.{sym, ◌∙◌}
use Rattle.pickup.proofs.Asked.{end_few}
use Rattle.pickup.proofs.pickup.Pickup.end_of.Goals as goal

pub raised-requires : goal.raised-requires
raised-requires g c =
    let below = c.args.self.now.below.now in
    end_few c.args.end (g.G.Ground.meaning below) (g.G.Ground.lawful below) c.in-After.copy c.in_ok-of-in-After.field-0 (sym c.of-in-After.ensures ∙ c.in_ok-of-in-After.was)
