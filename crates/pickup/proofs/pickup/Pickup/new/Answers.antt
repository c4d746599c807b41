use Rattle.std.proofs.Common.{refl}
use Rattle.pickup.proofs.Crossed.{crossing_law}
use Rattle.pickup.proofs.pickup.Pickup.new.Goals as goal

pub returns : goal.returns
returns g c =
    record { made = (refl, refl); law = crossing_law (g.G.Ground.meaning c.args.below.now) c.args.at (g.G.Ground.lawful c.args.below.now) }
