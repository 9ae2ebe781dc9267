-- The chain meets the laws' hypotheses, by computing.
use Rattle.std.proofs.Common.{refl, lit≤}
use Rattle.theory.specs.Due.{due_times}
use Rattle.theory.specs.Instances.{net, AtStart, AtFinish, LawsNotEmpty}
use Rattle.theory.proofs.Laws.{plan_is_a_tree}

at_start : AtStart
unfolding due_times
at_start = record {
  entered = refl;
  going_on = refl;
  first_event = refl;
  two_active = (refl, refl);
  between = (refl, refl);
  even_slack = refl;
  away = (refl, refl);
}

at_finish : AtFinish
unfolding due_times
at_finish = record {
  over = refl;
  bound = refl;
  a_tree = (plan_is_a_tree net refl 6 (lit≤ tt) refl).0;
  exactly = refl;
}

pub laws_not_empty : LawsNotEmpty
laws_not_empty = (at_start, at_finish)
