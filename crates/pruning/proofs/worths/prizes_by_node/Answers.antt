use Rattle.std.proofs.Common.{ℕ, ◌-◌, ◌++◌, length, drop, replicate, ap, ◌∙◌, arith}
use Rattle.network.specs.Networks.{net_of}
use Rattle.theory.proofs.Valid.{fine}
use Rattle.pruning.specs.Branches.{by_node}
use Rattle.pruning.proofs.Lifting.{prizes_long, prizes_by_node}
use Rattle.pruning.proofs.worths.prizes_by_node.Goals as goal

pub returns : goal.returns
returns c =
    let net = net_of c.args.network.now in
    let ps = c.prizes-prizes.result.now in
    let few = (fine net c.args.network.now.valid).few_nodes in
    let count = ap length c.prizes-prizes.ensures in
    let wrote = c.copy_from_slice.ensures.after in
    record {
      long = ap (λ w. length (w ++ drop (length ps - 0) (replicate {A = ℕ} 256 0))) wrote ∙ prizes_long ps (omega arith);
      value = ap (λ w. by_node (w ++ drop (length ps - 0) (replicate {A = ℕ} 256 0))) wrote ∙ prizes_by_node ps ∙ ap by_node c.prizes-prizes.ensures;
    }
