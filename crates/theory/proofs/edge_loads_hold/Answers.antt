use Rattle.theory.proofs.Laws.{edge_loads_hold}
use Rattle.theory.proofs.edge_loads_hold.Goals as goal

pub returns : goal.returns
returns c = edge_loads_hold
