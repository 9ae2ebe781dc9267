use Rattle.std.proofs.Common.{refl, ap}
use Rattle.network.specs.Networks.{net_of}
use Rattle.theory.specs.Growth.{grow}
use Rattle.theory.proofs.Laws.{laws_hold}
use Rattle.growth.proofs.engine.Growth.start.Goals as goal

pub returns : goal.returns
returns g c =
    let net = net_of c.args.network in
    let t = c.open-tables.result in
    record {
      network = refl;
      state = ap (grow net) c.open-tables.ensures.shown.steps;
      steps = c.open-tables.ensures.shown.steps;
      laws = laws_hold net c.args.network.valid t.steps;
    }
