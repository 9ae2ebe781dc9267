use Rattle.theory.proofs.Laws.{laws_hold}
use Rattle.theory.proofs.laws_hold.Goals as goal

pub returns : goal.returns
returns c = laws_hold
