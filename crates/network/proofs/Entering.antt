-- An entry that is not refused keeps a network valid. Assumes nothing.
use Rattle.std.proofs.Common.{◌≡◌, ℕ, ◌+◌, ◌<◌, Bool, true, cond, leb, List, [], ◌∷◌, ◌++◌, length, Some, None, Ok, Err, Option, vec_items, vec_len, sym, refl, ap, ◌∙◌, arith}
use Rattle.std.proofs.lemmas.List.{length_push, length-map, map_push}
use Rattle.std.proofs.lemmas.Bool.{and_parts, and_from}
use Rattle.std.proofs.lemmas.Bool.Decides.{nat_tests}
use Rattle.refusal.specs.declared.Refusal.TheVariants.{BadCode}
use Rattle.refusal.specs.declared.Refusal.{Refusal}
use Rattle.network.specs.Codes.{all, is_code, code_from}
use Rattle.network.specs.Nets.{Net, Link, link, valid, valid_link, valid_prize}
use Rattle.network.specs.Edges.{link_of, net_from, text_of}
use Rattle.network.specs.Networks.{net_of}
use Rattle.network.specs.declared.edge.Edge.{Edge}
use Rattle.network.specs.declared.network.Network.{Network}
use Rattle.network.specs.Entries.{node_refusal, edge_refusal, before_code_refusal, code_refusal, or_else, answer_of, with_node, with_edge}

-- a network has as many edges as its list of them
pub edges_long : (n : Network) → length (net_of n).edges ≡ vec_len n.edges
edges_long n = length-map (vec_items n.edges) link_of ∙ sym n.edges.ok.0

pub all_push : {X : Type 0} (p : X → Bool) (xs : List X) (x : X) → all p xs ≡ true → p x ≡ true → all p (xs ++ x ∷ []) ≡ true
all_push p [] x h e = and_from _ _ e refl
all_push p (y ∷ ys) x h e = let q = and_parts _ _ h in and_from _ _ q.0 (all_push p ys x q.1 e)

pub all_weaker : {X : Type 0} (p q : X → Bool) → ((x : X) → p x ≡ true → q x ≡ true) → (xs : List X) → all p xs ≡ true → all q xs ≡ true
all_weaker p q w [] h = refl
all_weaker p q w (x ∷ xs) h = let r = and_parts _ _ h in and_from _ _ (w x r.0) (all_weaker p q w xs r.1)

-- an edge among n nodes is one among more
link_among_more : (n : ℕ) (e : Link) → valid_link n e ≡ true → valid_link (n + 1) e ≡ true
link_among_more n e h = grind (arith, nat_tests)

-- what validity says, part by part
pub record Parts (net : Net) : Type 0 where
  pub few_nodes : leb (length net.prizes) 256 ≡ true
  pub few_edges : leb (length net.edges) 1024 ≡ true
  pub prizes_within : all valid_prize net.prizes ≡ true
  pub links_valid : all (valid_link (length net.prizes)) net.edges ≡ true

pub valid_parts : (net : Net) → valid net ≡ true → Parts net
valid_parts net h =
    let a = and_parts _ _ h in
    let b = and_parts _ _ a.1 in
    let c = and_parts _ _ b.1 in
    record { few_nodes = a.0; few_edges = b.0; prizes_within = c.0; links_valid = c.1 }

pub parts_valid : (net : Net) → Parts net → valid net ≡ true
parts_valid net p = and_from _ _ p.few_nodes (and_from _ _ p.few_edges (and_from _ _ p.prizes_within p.links_valid))

pub node_fits : (net : Net) (prize : ℕ) → node_refusal net prize ≡ None → (length net.prizes < 256) × (valid_prize prize ≡ true)
node_fits net prize e = grind (arith, nat_tests)

pub edge_fits : (net : Net) (e : Link) → edge_refusal net e ≡ None → (length net.edges < 1024) × (valid_link (length net.prizes) e ≡ true)
edge_fits net e h = grind (arith, nat_tests)

pub node_keeps_valid : (net : Net) (prize : ℕ) → valid net ≡ true → node_refusal net prize ≡ None → valid (with_node net prize) ≡ true
node_keeps_valid net prize h e =
    let p = valid_parts net h in
    let f = node_fits net prize e in
    let n = length_push net.prizes prize in
    let more : all (valid_link (length net.prizes + 1)) net.edges ≡ true = all_weaker _ _ (link_among_more (length net.prizes)) net.edges p.links_valid in
    parts_valid (with_node net prize) record {
      few_nodes = grind (arith, nat_tests);
      few_edges = p.few_edges;
      prizes_within = all_push valid_prize net.prizes prize p.prizes_within f.1;
      links_valid = ap (λ k. all (valid_link k) net.edges) n ∙ more;
    }

pub edge_keeps_valid : (net : Net) (e : Link) → valid net ≡ true → edge_refusal net e ≡ None → valid (with_edge net e) ≡ true
edge_keeps_valid net e h none =
    let p = valid_parts net h in
    let f = edge_fits net e none in
    let n = length_push net.edges e in
    parts_valid (with_edge net e) record {
      few_nodes = p.few_nodes;
      few_edges = grind (arith, nat_tests);
      prizes_within = p.prizes_within;
      links_valid = all_push (valid_link (length net.prizes)) net.edges e p.links_valid f.1;
    }

pub code_made : (text t : List ℕ) → Some t ≡ code_from text → (is_code text ≡ true) × (t ≡ text)
code_made text t e = grind (arith, nat_tests)

pub no_edge_refusal : (net : Net) (first second cost : ℕ) (text t : List ℕ) → None ≡ before_code_refusal net first second cost → Some t ≡ code_from text → edge_refusal net (link first second cost text) ≡ None
no_edge_refusal net first second cost text t h k = ap (λ r. or_else r (code_refusal text)) (sym h) ∙ ap (λ b. cond b None (Some BadCode)) (code_made text t k).0

-- one edge more in the list is one edge more in the network
pub edge_pushed : (n : Network) (es : List Edge) (e : Edge) (text : List ℕ) → es ≡ vec_items n.edges ++ e ∷ [] → text_of e.code ≡ text → net_from (vec_items n.prizes) es ≡ with_edge (net_of n) (link e.first e.second e.cost text)
edge_pushed n es e text is same =
    ap (net_from (vec_items n.prizes)) is
    ∙ ap (λ l. record { prizes = vec_items n.prizes; edges = l }) (map_push link_of (vec_items n.edges) e)
    ∙ ap (λ t. with_edge (net_of n) (link e.first e.second e.cost t)) same

-- what is answered with a value is not refused
pub not_refused : (why : Option Refusal) → Ok (tt {0}) ≡ answer_of why (tt {0}) → why ≡ None
not_refused None e = refl
not_refused (Some why) e = grind arith

pub refused_with : (why : Option Refusal) (e : Refusal) → Err e ≡ answer_of why (tt {0}) → Some e ≡ why
refused_with None e is = grind arith
refused_with (Some why) e is = cc
