-- How long a sheet can be. Assumes nothing.
use Rattle.std.proofs.Common.{◌≡◌, ℕ, ◌+◌, ◌*◌, ◌^◌, ◌<◌, ◌≤◌, Bool, true, List, [], ◌∷◌, length, decimal, arith, length-append}
use Rattle.std.specs.List.{flat_map}
use Rattle.std.proofs.lemmas.Fmt.{length-decimal-le}
use Rattle.std.proofs.lemmas.List.{length_push}
use Rattle.std.proofs.lemmas.Bool.{and_parts, leb-true}
use Rattle.std.proofs.lemmas.Bool.Decides.{nat_tests}
use Rattle.network.proofs.Entering.{valid_parts}
use Rattle.network.specs.Codes.{all}
use Rattle.network.specs.Nets.{Net, Link, valid, valid_prize, valid_link}
use Rattle.sheet.specs.Writing.{node_line, edge_line, sheet_of}

node_le : (p : ℕ) → valid_prize p ≡ true → length (node_line p) ≤ 13
node_le p h = let l = leb-true p 1000000000 h in let n = length-decimal-le 10 p (omega arith) (omega arith) (omega arith) in let m = length_push (decimal p) 10 in omega arith

record Within (e : Link) : Type 0 where
  first : e.first < 256
  second : e.second < 256
  cost : e.cost ≤ 1000000000
  code : length e.code ≤ 8

within : (n : ℕ) (e : Link) → n ≤ 256 → valid_link n e ≡ true → Within e
within n e l h = record { first = grind (arith, nat_tests); second = grind (arith, nat_tests); cost = grind (arith, nat_tests); code = grind (arith, nat_tests) }

edge_long : (e : Link) → length (edge_line e) ≡ 6 + length (decimal e.first) + length (decimal e.second) + length (decimal e.cost) + length e.code
edge_long e = simp length-append (omega arith)

edge_le : (n : ℕ) (e : Link) → n ≤ 256 → valid_link n e ≡ true → length (edge_line e) ≤ 30
edge_le n e l h =
    let w = within n e l h in
    let fits : (e.first < 2 ^ 64) × (e.second < 2 ^ 64) × (e.cost < 2 ^ 64) = (omega (arith, w.first), omega (arith, w.second), omega (arith, w.cost)) in
    let p = length-decimal-le 3 e.first (omega arith) (omega (arith, w.first)) fits.0 in
    let q = length-decimal-le 3 e.second (omega arith) (omega (arith, w.second)) fits.1 in
    let r = length-decimal-le 10 e.cost (omega arith) (omega (arith, w.cost)) fits.2 in
    omega (arith, edge_long e, w.code)

lines_le : {X : Type 0} (line : X → List ℕ) (test : X → Bool) (most : ℕ) → ((x : X) → test x ≡ true → length (line x) ≤ most) → (xs : List X) → all test xs ≡ true → length (flat_map line xs) ≤ most * length xs
lines_le line test most h [] k = omega arith
lines_le line test most h (x ∷ xs) k =
    let p = and_parts (test x) (all test xs) k in
    let a = length-append (line x) (flat_map line xs) in
    let b = h x p.0 in
    let again = lines_le line test most h xs p.1 in
    omega arith

pub longest : (net : Net) → valid net ≡ true → length (sheet_of net) ≤ 34048
longest net h =
    let v = valid_parts net h in
    let few = leb-true (length net.prizes) 256 v.few_nodes in
    let fewer = leb-true (length net.edges) 1024 v.few_edges in
    let a = lines_le node_line valid_prize 13 node_le net.prizes v.prizes_within in
    let b = lines_le edge_line (valid_link (length net.prizes)) 30 (λ e k. edge_le (length net.prizes) e few k) net.edges v.links_valid in
    omega (arith, length-append (flat_map node_line net.prizes) (flat_map edge_line net.edges))
