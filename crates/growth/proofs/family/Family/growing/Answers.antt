use Rattle.std.proofs.Common.{ℕ, ◌≤◌, ◌^◌, Bool, true, false, List, get_or, length, ap, ◌∙◌, rules, tests, arith}
use Rattle.std.specs.List.{sum_by}
use Rattle.std.specs.Slice.Iter.{iter_rest}
use Rattle.std.proofs.lemmas.Iterator.{YieldsList-from_slice, YieldsList-from_map}
use Rattle.std.proofs.lemmas.Iterator.Consumers.{sum_by_from_yields_List, fits_by_from_yields_list}
use Rattle.theory.specs.Sums.{one}
use Rattle.pruning.proofs.Totals.{sum_most}
use Rattle.growth.specs.Records.{vacant, is_growing}
use Rattle.growth.specs.declared.cluster.Cluster.{Cluster}
use Rattle.growth.proofs.InPlace.{sum_of}
use Rattle.growth.proofs.family.Family.growing.Goals as goal

abbrev counted : Cluster → ℕ
counted x = one (is_growing x)

one_most : (b : Bool) → one b ≤ 1
one_most true = omega arith
one_most false = omega arith

few : (cs : List Cluster) → sum_by counted cs ≤ length cs
few cs =
    let e = sum_of counted vacant cs in
    let m = sum_most (λ k. counted (get_or cs k vacant)) 1 (λ k. one_most (is_growing (get_or cs k vacant))) (length cs) in
    omega arith

pub sum-requires-clause-fits : goal.sum-requires-clause-fits
sum-requires-clause-fits c =
    let cs = c.args.self.now.clusters in
    let n = few cs in
    let whole = c.args.self.now.whole in
    fits_by_from_yields_list counted cs c.map.result (2 ^ 64) (YieldsList-from_map _ counted (YieldsList-from_slice cs (ap iter_rest c.map.ensures.source ∙ c.iter.ensures.rest)) c.map.ensures.closure (λ x y q k. search (rules, tests))) (omega arith)

pub returns : goal.returns
returns c =
    let cs = c.args.self.now.clusters in
    sum_by_from_yields_List counted cs c.map.result c.sum.result c.sum.ensures.ran (YieldsList-from_map _ counted (YieldsList-from_slice cs (ap iter_rest c.map.ensures.source ∙ c.iter.ensures.rest)) c.map.ensures.closure (λ x y q k. search (rules, tests)))
    ∙ sum_of counted vacant cs
