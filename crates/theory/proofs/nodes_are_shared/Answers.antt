use Rattle.theory.proofs.Laws.{nodes_shared}
use Rattle.theory.proofs.nodes_are_shared.Goals as goal

pub returns : goal.returns
returns c = nodes_shared
