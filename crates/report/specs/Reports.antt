-- The final report of a network: what it says is a function of the network alone, whatever queue growth goes by.
use Rattle.std.specs.Prelude.{ℕ, ◌-◌, ◌*◌, cond, List, ◌++◌, replicate, Ok, Err, Result, ◌==◌}
use Rattle.refusal.specs.declared.Refusal.{Refusal}
use Rattle.refusal.specs.declared.Refusal.TheVariants.{NoNode}
use Rattle.network.specs.Nets.{Net}
use Rattle.theory.specs.Nets.{node_count, edge_count}
use Rattle.theory.specs.Growth.{State, grow, lower_bound}
use Rattle.theory.specs.Prune.{Plan, plan}
use Rattle.theory.specs.Strong.{strong_plan}
use Rattle.pruning.specs.Answers.{answer_of}
use Rattle.pruning.specs.declared.answer.Answer.{Answer}
use Rattle.report.specs.declared.kept.Kept.{Kept}
use Rattle.report.specs.declared.kept.Report.{Report}

-- growth at its end: more steps than twice the nodes are never accepted
abbrev pub grown : Net → State
grown net = grow net (2 * node_count net)

-- a plan as the report has it: its marks stand at the front of lists of 0
abbrev pub kept_of : Net → Plan → Kept
kept_of net p = record { answer = answer_of p; nodes = p.node_marks ++ replicate (256 - node_count net) 0; edges = p.edge_marks ++ replicate (1024 - edge_count net) 0 }

-- a plan's answer with its marks, unless it is refused
abbrev pub with_marks : Result Answer Refusal → List ℕ → List ℕ → Result Kept Refusal
with_marks (Ok a) nodes edges = Ok (record { answer = a; nodes = nodes; edges = edges })
with_marks (Err why) nodes edges = Err why

-- there is no plan of a network without a node
abbrev pub kept_answer : Net → Plan → Result Kept Refusal
kept_answer net p = cond (node_count net == 0) (Err NoNode) (Ok (kept_of net p))

abbrev pub report_of : Net → Report
report_of net = record { steps = (grown net).steps; lower_bound = lower_bound (grown net); plan = kept_of net (plan net (grown net)); strong = kept_of net (strong_plan net (grown net)) }

-- and no report
abbrev pub report_answer : Net → Result Report Refusal
report_answer net = cond (node_count net == 0) (Err NoNode) (Ok (report_of net))
