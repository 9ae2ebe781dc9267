use Rattle.std.proofs.Common.{◌≡◌, ◌++◌, length, sym, ap, ◌∙◌, arith, length-append}
use Rattle.std.specs.List.{flat_map}
use Rattle.std.proofs.lemmas.List.Folds.{flat_map-map}
use Rattle.network.specs.Edges.{link_of}
use Rattle.network.specs.Networks.{net_of}
use Rattle.sheet.specs.Writing.{node_line, edge_line}
use Rattle.sheet.proofs.Longest.{longest}
use Rattle.sheet.proofs.writer.sheet_text.Goals as goal

pub put_lines-requires : goal.put_lines-requires
put_lines-requires c =
    let net = net_of c.args.network.now in
    let most = longest net c.args.network.now.valid in
    let both = length-append (flat_map node_line net.prizes) (flat_map edge_line net.edges) in
    omega (arith, ap length c.new-text.ensures, ap (λ l. length (flat_map node_line l)) c.prizes.ensures)

pub put_lines-requires-2 : goal.put_lines-requires-2
put_lines-requires-2 c =
    let net = net_of c.args.network.now in
    let most = longest net c.args.network.now.valid in
    let nodes = ap (flat_map node_line) c.prizes.ensures in
    let edges = sym (flat_map-map edge_line link_of c.edges.result.now) ∙ ap (flat_map edge_line) c.edges.ensures in
    let first : c.put_lines.new.text.items ≡ flat_map node_line net.prizes = c.put_lines.ensures ∙ (λ i. c.new-text.ensures i ++ nodes i) in
    let both = length-append (flat_map node_line net.prizes) (flat_map edge_line net.edges) in
    omega (arith, ap length first, ap length edges)

pub returns : goal.returns
returns c =
    let net = net_of c.args.network.now in
    let nodes = ap (flat_map node_line) c.prizes.ensures in
    let edges = sym (flat_map-map edge_line link_of c.edges.result.now) ∙ ap (flat_map edge_line) c.edges.ensures in
    let first : c.put_lines.new.text.items ≡ flat_map node_line net.prizes = c.put_lines.ensures ∙ (λ i. c.new-text.ensures i ++ nodes i) in
    c.put_lines-2.ensures ∙ (λ i. first i ++ edges i)
