use Rattle.std.proofs.Common.{◌≡◌, ◌-◌, ◌++◌, length, take, drop, replicate, ap, ◌∙◌, rules, arith}
use Rattle.std.proofs.lemmas.List.{drop-replicate, length-replicate, length-take-le}
use Rattle.growth.specs.Records.{vacant, lone_record}
use Rattle.growth.proofs.family.Family.open.Goals as goal

pub returns-clause-clusters : goal.returns-clause-clusters
returns-clause-clusters c =
    let n = c.args.n in
    let whole : n - 0 ≡ n = omega arith in
    let vacants = replicate 511 c.vacant-clusters.result in
    let total = length-replicate 511 c.vacant-clusters.result in
    let few = c.requires in
    let long : length (take (n - 0) vacants) ≡ n = length-take-le (n - 0) vacants (omega arith) ∙ whole in
    let filled : c.fill.new.self ≡ replicate n lone_record = c.fill.ensures.after (λ y k. search rules) ∙ (λ i. replicate (long i) (c.lone.ensures i)) in
    let rest : drop n vacants ≡ replicate (511 - n) vacant = drop-replicate n 511 c.vacant-clusters.result ∙ ap (replicate (511 - n)) c.vacant-clusters.ensures in
    λ i. filled i ++ (ap (λ k. drop k vacants) whole ∙ rest) i
