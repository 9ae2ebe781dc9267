use Rattle.theory.proofs.Instances.{laws_not_empty}
use Rattle.theory.proofs.laws_not_empty.Goals as goal

pub returns : goal.returns
returns c = laws_not_empty
