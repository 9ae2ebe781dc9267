use Rattle.std.proofs.Common.{refl, ◌∙◌, arith}
use Rattle.theory.specs.Prune.{marked}
use Rattle.theory.proofs.Valid.{fine}
use Rattle.pruning.specs.Pruned.{member}
use Rattle.pruning.specs.Trees.{net_under, edges_in}
use Rattle.pruning.proofs.Turns.{leaving_same}
use Rattle.pruning.proofs.pruned.degree.Goals as goal

pub returns : goal.returns
returns c =
    let tree = c.args.tree.now in
    let net = net_under tree in
    let f = fine net tree.network.now.valid in
    let few = f.few_nodes in
    c.count_leaving.ensures ∙ leaving_same net f (edges_in tree) (edges_in tree) (marked c.members_of.result) (member c.args.shapes.now c.args.c) (λ s l. refl) (λ v l. c.members_of.ensures v (omega arith))
