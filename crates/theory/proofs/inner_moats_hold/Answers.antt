use Rattle.theory.proofs.Laws.{inner_moats_hold}
use Rattle.theory.proofs.inner_moats_hold.Goals as goal

pub returns : goal.returns
returns c = inner_moats_hold
