-- A plan's marks at the front of lists of 0, once growth has ended.
use Rattle.std.proofs.Common.{◌≡◌, ℕ, Bool, true, false, cond, eqb, ltb, List, ◌++◌, length, replicate, Some, None, Ok, Err, Result, refl, ◌∙◌, arith}
use Rattle.std.proofs.lemmas.List.{length-replicate, drop-replicate}
use Rattle.std.proofs.lemmas.Bool.{le-ltb, or_from}
use Rattle.refusal.specs.declared.Refusal.{Refusal}
use Rattle.refusal.specs.declared.Refusal.TheVariants.{NoNode, StillGrowing, ListTooShort}
use Rattle.network.specs.Nets.{Net, valid}
use Rattle.theory.specs.Nets.{node_count, edge_count}
use Rattle.theory.specs.Growth.{State, ended}
use Rattle.theory.specs.Numbers.{either}
use Rattle.theory.specs.Prune.{Plan}
use Rattle.theory.proofs.Valid.{fine}
use Rattle.pruning.specs.Answers.{answer_of}
use Rattle.pruning.specs.Written.{too_short}
use Rattle.growth.specs.Plans.{plan_refusal, unless_refused, plan_answer, marks_written, nodes_written, edges_written}
use Rattle.report.specs.Reports.{kept_of, with_marks, kept_answer}

module _ (net : Net) (v : valid net ≡ true) (st : State) (over : ended st ≡ true) (p : Plan) where
  abbrev nodes : List ℕ
  nodes = replicate 256 0

  abbrev edges : List ℕ
  edges = replicate 1024 0

  long_enough : too_short net nodes edges ≡ false
  long_enough = or_from (ltb (length nodes) (node_count net)) (ltb (length edges) (edge_count net))
      (le-ltb (length nodes) (node_count net) (let e = length-replicate {A = ℕ} 256 0 in let f = (fine net v).few_nodes in omega arith))
      (le-ltb (length edges) (edge_count net) (let e = length-replicate {A = ℕ} 1024 0 in let f = (fine net v).few_edges in omega arith))

  refusal : plan_refusal net st nodes edges ≡ cond (eqb (node_count net) 0) (Some NoNode) None
  refusal = (λ i. either (cond (eqb (node_count net) 0) (Some NoNode) (cond (over i) None (Some StillGrowing))) (cond (long_enough i) (Some ListTooShort) None)) ∙ by (eqb (node_count net) 0)
    where
      by : (b : Bool) → either (cond b (Some NoNode) None) None ≡ cond b (Some NoNode) None
      by true = refl
      by false = refl

  whole : (b : Bool) → with_marks (unless_refused (cond b (Some NoNode) None) p) (marks_written (cond b (Some NoNode) None) p.node_marks (node_count net) nodes) (marks_written (cond b (Some NoNode) None) p.edge_marks (edge_count net) edges)
      ≡ cond b (Err NoNode) (Ok (kept_of net p))
  whole true = refl
  whole false = λ i. Ok (record { answer = answer_of p; nodes = p.node_marks ++ drop-replicate (node_count net) 256 0 i; edges = p.edge_marks ++ drop-replicate (edge_count net) 1024 0 i })

  pub kept_found : with_marks (plan_answer net st p nodes edges) (nodes_written net st p nodes edges) (edges_written net st p nodes edges) ≡ kept_answer net p
  kept_found = (λ i. with_marks (unless_refused (refusal i) p) (marks_written (refusal i) p.node_marks (node_count net) nodes) (marks_written (refusal i) p.edge_marks (edge_count net) edges)) ∙ whole (eqb (node_count net) 0)

-- what was not refused is there
pub found : {X : Type 0} (b : Bool) (x y : X) → ◌≡◌ {A = Result X Refusal} (Ok x) (cond b (Err NoNode) (Ok y)) → (b ≡ false) × (x ≡ y)
found true x y e = let z : ◌≡◌ {A = ℕ} 0 1 = cc in absurd (omega arith)
found false x y e = (refl, cc)
