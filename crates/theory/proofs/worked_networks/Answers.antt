use Rattle.theory.proofs.Worked.{worked_networks}
use Rattle.theory.proofs.worked_networks.Goals as goal

pub returns : goal.returns
returns c = worked_networks
