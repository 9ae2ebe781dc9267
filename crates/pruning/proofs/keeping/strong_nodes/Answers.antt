use Rattle.std.proofs.Common.{◌≡◌, ℕ, ◌<◌, Bool, List, [], unwrap_or, sym, ap, ◌∙◌, subst, rules, arith}
use Rattle.network.specs.Nets.{Net}
use Rattle.network.specs.Networks.{net_of}
use Rattle.theory.specs.Nets.{node_count, prize}
use Rattle.theory.specs.Prune.{marked}
use Rattle.theory.specs.Strong.{Branch, lowest_below, or_zero, Hang, hang_from, worths, greatest}
use Rattle.theory.proofs.Valid.{Fine, fine}
use Rattle.pruning.specs.Branches.{newest_first, by_node, entered, Rooted}
use Rattle.pruning.proofs.Rooting.{hangs_entered}
use Rattle.pruning.proofs.Kept.{root_is, root_below, nodes_found}
use Rattle.pruning.proofs.keeping.strong_nodes.Goals as goal

rooted : (net : Net) (E : ℕ → Bool) (root : ℕ) (bs : List Branch) → bs ≡ hang_from (node_count net) net E root [] → Rooted net bs
rooted net E root bs e = (root, subst (Hang net (entered net) root) (sym e) (hangs_entered net E root (node_count net) [] tt))

below : (net : Net) → Fine net → (N : ℕ → Bool) (n root : ℕ) → n ≡ node_count net → root ≡ unwrap_or (lowest_below n N) 0 → root < 256
below net f N n root all is = let few = f.few_nodes in let l = root_below n N (omega arith) in omega arith

pub hang-branches-requires : goal.hang-branches-requires
hang-branches-requires c =
    let net = net_of c.args.network.now in
    below net (fine net c.args.network.now.valid) (marked c.args.nodes.now) c.node_count-n.result c.unwrap_or-root.result c.node_count-n.ensures (c.unwrap_or-root.ensures ∙ ap (λ o. unwrap_or o 0) c.lowest_marked.ensures)

pub net_worths-table-requires-clause-rooted : goal.net_worths-table-requires-clause-rooted
net_worths-table-requires-clause-rooted c = rooted (net_of c.args.network.now) (marked c.args.edges.now) c.unwrap_or-root.result _ (ap newest_first c.deref.ensures.0 ∙ c.hang-branches.ensures)

pub best_node-best-requires-clause-root : goal.best_node-best-requires-clause-root
best_node-best-requires-clause-root c =
    let net = net_of c.args.network.now in
    let l = below net (fine net c.args.network.now.valid) (marked c.args.nodes.now) c.node_count-n.result c.unwrap_or-root.result c.node_count-n.ensures (c.unwrap_or-root.ensures ∙ ap (λ o. unwrap_or o 0) c.lowest_marked.ensures) in
    search rules

pub keep-requires-clause-rooted : goal.keep-requires-clause-rooted
keep-requires-clause-rooted c = rooted (net_of c.args.network.now) (marked c.args.edges.now) c.unwrap_or-root.result _ (ap newest_first c.deref-2.ensures.0 ∙ c.hang-branches.ensures)

pub keep-requires-clause-root : goal.keep-requires-clause-root
keep-requires-clause-root c =
    let net = net_of c.args.network.now in
    below net (fine net c.args.network.now.valid) (marked c.args.nodes.now) c.node_count-n.result c.unwrap_or-root.result c.node_count-n.ensures (c.unwrap_or-root.ensures ∙ ap (λ o. unwrap_or o 0) c.lowest_marked.ensures)

pub returns : goal.returns
returns c =
    let net = net_of c.args.network.now in
    let N = marked c.args.nodes.now in
    let n = c.node_count-n.ensures in
    let root = c.unwrap_or-root.result in
    let W = by_node c.net_worths-table.result in
    c.keep.ensures
    ∙ nodes_found net N (marked c.args.edges.now) root c.best_node-best.result (newest_first c.deref-2.result.now) W
    (c.unwrap_or-root.ensures ∙ root_is c.lowest_marked.result ∙ ap or_zero c.lowest_marked.ensures ∙ ap (λ k. or_zero (lowest_below k N)) n)
    (ap newest_first c.deref-2.ensures.0 ∙ c.hang-branches.ensures)
    (c.net_worths-table.ensures ∙ ap (λ bs. worths net (newest_first bs) (prize net)) (c.deref.ensures.0 ∙ sym c.deref-2.ensures.0))
    (c.best_node-best.ensures ∙ ap (λ k. greatest k N W root) n)
