-- What both prunings of a growing network answer and write.
use Rattle.std.specs.Prelude.{ℕ, cond, not, List, ◌++◌, drop, Some, None, Ok, Err, Option, Result, ◌==◌}
use Rattle.refusal.specs.declared.Refusal.{Refusal}
use Rattle.refusal.specs.declared.Refusal.TheVariants.{NoNode, StillGrowing, ListTooShort}
use Rattle.network.specs.Nets.{Net}
use Rattle.theory.specs.Nets.{node_count, edge_count}
use Rattle.theory.specs.Growth.{State, ended}
use Rattle.theory.specs.Numbers.{either}
use Rattle.theory.specs.Prune.{Plan}
use Rattle.pruning.specs.Answers.{answer_of}
use Rattle.pruning.specs.Written.{too_short}
use Rattle.pruning.specs.declared.answer.Answer.{Answer}
use Rattle.pruning.specs.declared.shape.Shape.{Shape}
use Rattle.growth.specs.Records.{phase_active}
use Rattle.growth.specs.declared.cluster.Cluster.{Cluster}

-- a cluster as pruning asks for it
abbrev pub shape_of : Cluster → Shape
shape_of c = record { parts = c.parts; inactive = not (phase_active c.phase) }

-- there is no plan of a network without a node, nor while growth goes on
abbrev pub no_plan : Net → State → Option Refusal
no_plan net st = cond (node_count net == 0) (Some NoNode) (cond (ended st) None (Some StillGrowing))

-- why a plan is refused, for these two lists: the lowest-numbered refusal that applies
abbrev pub plan_refusal : Net → State → List ℕ → List ℕ → Option Refusal
plan_refusal net st nodes edges = either (no_plan net st) (cond (too_short net nodes edges) (Some ListTooShort) None)

-- a plan's answer, unless it is refused
abbrev pub unless_refused : Option Refusal → Plan → Result Answer Refusal
unless_refused None p = Ok (answer_of p)
unless_refused (Some why) p = Err why

abbrev pub plan_answer : Net → State → Plan → List ℕ → List ℕ → Result Answer Refusal
plan_answer net st p nodes edges = unless_refused (plan_refusal net st nodes edges) p

-- the marks at the front of the list, and what was behind them; all as it was where they are refused
abbrev pub marks_written : Option Refusal → List ℕ → ℕ → List ℕ → List ℕ
marks_written None marks n out = marks ++ drop n out
marks_written (Some why) marks n out = out

-- the list of nodes after a plan, and the list of edges
abbrev pub nodes_written : Net → State → Plan → List ℕ → List ℕ → List ℕ
nodes_written net st p nodes edges = marks_written (plan_refusal net st nodes edges) p.node_marks (node_count net) nodes

abbrev pub edges_written : Net → State → Plan → List ℕ → List ℕ → List ℕ
edges_written net st p nodes edges = marks_written (plan_refusal net st nodes edges) p.edge_marks (edge_count net) edges
