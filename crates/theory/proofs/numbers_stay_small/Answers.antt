use Rattle.theory.proofs.Laws.{numbers_stay_small}
use Rattle.theory.proofs.numbers_stay_small.Goals as goal

pub returns : goal.returns
returns c = numbers_stay_small
