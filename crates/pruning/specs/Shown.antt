-- How a report shows what a plan answers.
use Rattle.std.specs.Prelude.{ℕ, List, ◌++◌, codes, decimal}
use Rattle.pruning.specs.declared.answer.Answer.{Answer}
use Rattle.pruning.specs.declared.answer.Coverage.{Coverage}
use Rattle.pruning.specs.declared.answer.Coverage.TheVariants.{Whole, Alone, Part}

abbrev pub coverage_text : Coverage → List ℕ
coverage_text Whole = codes "whole"
coverage_text Alone = codes "alone"
coverage_text Part = codes "part"

-- status, cost and lost prizes, parted by tabs
abbrev pub answer_text : Answer → List ℕ
answer_text a = coverage_text a.status ++ (codes "\t" ++ (decimal a.cost ++ (codes "\t" ++ decimal a.lost)))
