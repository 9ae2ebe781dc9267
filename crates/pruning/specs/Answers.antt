-- A plan's answers as the code gives them.
use Rattle.theory.specs.Prune as theory
use Rattle.theory.specs.Prune.{Plan}
use Rattle.theory.specs.Prune.Coverage.{whole, alone, part}
use Rattle.pruning.specs.declared.answer.Answer.{Answer}
use Rattle.pruning.specs.declared.answer.Coverage.{Coverage}
use Rattle.pruning.specs.declared.answer.Coverage.TheVariants.{Whole, Alone, Part}

abbrev pub status_of : theory.Coverage → Coverage
status_of whole = Whole
status_of alone = Alone
status_of part = Part

-- what a plan answers besides its marks
abbrev pub answer_of : Plan → Answer
answer_of p = record { status = status_of p.status; cost = p.plan_cost; lost = p.plan_lost }
