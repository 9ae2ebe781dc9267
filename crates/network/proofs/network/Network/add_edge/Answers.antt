use Rattle.std.proofs.Common.{◌≡◌, length, Some, Ok, sym, ap, ◌∙◌, rules}
use Rattle.std.specs.Option.{option_map}
use Rattle.network.specs.Nets.{link}
use Rattle.network.specs.Edges.{text_of}
use Rattle.network.specs.Entries.{answer_of, unless_refused, with_edge}
use Rattle.network.specs.Networks.{net_of}
use Rattle.network.proofs.Entering.{edges_long, code_made, no_edge_refusal, edge_pushed, not_refused}
use Rattle.network.proofs.network.Network.add_edge.Goals as goal

pub returns : goal.returns
returns c =
    let was = c.args.self.now in
    let a = c.args in
    let new = link a.first a.second a.cost a.code.now in
    let told = c.push_reserved.ensures in
    let code = c.in_ok-code.code in
    let made : c.new.result ≡ Some code = search rules in
    let none = no_edge_refusal (net_of was) a.first a.second a.cost a.code.now (text_of code) (sym (not_refused _ c.in_ok-check_edge.ensures)) (ap (option_map text_of) (sym made) ∙ c.new.ensures) in
    let same = (code_made a.code.now (text_of code) (ap (option_map text_of) (sym made) ∙ c.new.ensures)).1 in
    record {
      answer = ap Ok (c.len-number.ensures ∙ sym (edges_long was)) ∙ ap (λ r. answer_of r (length (net_of was).edges)) (sym none);
      after = edge_pushed was _ _ a.code.now told.items same ∙ ap (λ r. unless_refused r (net_of was) (with_edge (net_of was) new)) (sym none);
    }
