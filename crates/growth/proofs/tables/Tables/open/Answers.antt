use Rattle.std.proofs.Common.{◌≡◌, ℕ, ◌-◌, ◌<◌, ◌≤◌, List, ◌++◌, length, get_or, replicate, sym, refl, ap, ◌∙◌, arith}
use Rattle.std.proofs.lemmas.List.{get_or_append_left, get_or-append_right, get_or-replicate, length-replicate}
use Rattle.std.proofs.lemmas.Bool.{leb-true}
use Rattle.network.specs.Networks.{net_of}
use Rattle.network.proofs.Entering.{valid_parts}
use Rattle.theory.specs.Nets.{node_count}
use Rattle.theory.specs.Sums.{one}
use Rattle.theory.proofs.Laws.{start_by_number}
use Rattle.growth.proofs.InPlace.{filled_all}
use Rattle.growth.specs.Records.{vacant, lone_record}
use Rattle.growth.specs.Shown.{phase_shown}
use Rattle.growth.specs.declared.cluster.Cluster.{Cluster}
use Rattle.growth.proofs.tables.Tables.open.Goals as goal

-- the first of the table are nodes alone
lone_at : (n k : ℕ) (cs : List Cluster) → cs ≡ replicate n lone_record ++ replicate (511 - n) vacant → k < n → get_or cs k vacant ≡ lone_record
lone_at n k cs is l =
    ap (λ r. get_or r k vacant) is
    ∙ get_or_append_left (replicate n lone_record) (replicate (511 - n) vacant) vacant k (omega (arith, length-replicate n lone_record))
    ∙ get_or-replicate n k lone_record vacant l

-- those behind them are vacant
vacant_at : (n k : ℕ) (cs : List Cluster) → cs ≡ replicate n lone_record ++ replicate (511 - n) vacant → n ≤ k → get_or cs k vacant ≡ vacant
vacant_at n k cs is l =
    ap (λ r. get_or r k vacant) is
    ∙ get_or-append_right (replicate n lone_record) (replicate (511 - n) vacant) n k vacant (length-replicate n lone_record) l
    ∙ filled_all (511 - n) (k - n) vacant

pub returns : goal.returns
returns c =
    let net = net_of c.args.network.now in
    let s = start_by_number net in
    let same : length c.prizes.result.now ≡ node_count net = ap length c.prizes.ensures in
    let few : node_count net ≤ 256 = leb-true (node_count net) 256 (valid_parts net c.args.network.now.valid).few_nodes in
    let count = s.count in
    record {
      shown = record {
        count = c.open.ensures.formed ∙ same ∙ sym count;
        records = λ k l. let m : k < node_count net = omega arith in
            lone_at (length c.prizes.result.now) k c.open.result.clusters c.open.ensures.clusters (omega arith)
            ∙ λ i. record { phase = phase_shown (sym (s.phases k m) i); moat = sym (s.moats k m) i; parts = sym (s.parts k m) i; maximal = sym (s.maximals k m) i };
        memberships = λ v l. c.open-2.ensures.clusters v (omega arith) ∙ sym (s.memberships v l);
        deep = λ v l. c.open-2.ensures.depths v (omega arith) ∙ sym (s.depths v);
        edges = λ e _. filled_all 1024 e 0 ∙ ap one (sym (s.none_chosen e));
        time = refl;
        steps = refl;
        moats = sym s.no_moats;
      };
      vacants = λ k l. vacant_at (length c.prizes.result.now) k c.open.result.clusters c.open.ensures.clusters (omega arith);
      all_edges = λ e. filled_all 1024 e 0 ∙ ap one (sym (s.none_chosen e));
    }
