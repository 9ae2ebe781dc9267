use Rattle.theory.proofs.Laws.{slack_is_even}
use Rattle.theory.proofs.slack_is_even.Goals as goal

pub returns : goal.returns
returns c = slack_is_even
