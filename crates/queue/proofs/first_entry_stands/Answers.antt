-- The theorem is a lemma of its own.
use Rattle.queue.proofs.Firsts.{first_entry_stands}
use Rattle.queue.proofs.first_entry_stands.Goals as goal

pub returns : goal.returns
returns c = first_entry_stands
