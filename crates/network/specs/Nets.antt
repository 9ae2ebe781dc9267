-- A network as entered: the prize of each node, and each edge with its ends, cost and code.
use Rattle.std.specs.Prelude.{ℕ, Bool, not, ◌&&◌, List, [], length, ◌==◌, nat_le, nat_lt}
use Rattle.network.specs.Codes.{all, is_code}

pub record Link : Type 0 where
  pub first : ℕ
  pub second : ℕ
  pub cost : ℕ
  pub code : List ℕ

abbrev pub link : ℕ → ℕ → ℕ → List ℕ → Link
link first second cost code = record { first = first; second = second; cost = cost; code = code }

pub record Net : Type 0 where
  pub prizes : List ℕ
  pub edges : List Link

abbrev pub empty_net : Net
empty_net = record { prizes = []; edges = [] }

-- the limits
abbrev pub most_nodes : ℕ
most_nodes = 256

abbrev pub most_edges : ℕ
most_edges = 1024

abbrev pub most_amount : ℕ
most_amount = 1000000000

-- an edge among n nodes: both ends are entered and differ, its cost is within the limit, its code is one
abbrev pub valid_link : ℕ → Link → Bool
valid_link n e = nat_lt e.first n && (nat_lt e.second n && (not (e.first == e.second) && (nat_le e.cost most_amount && is_code e.code)))

abbrev pub valid_prize : ℕ → Bool
valid_prize p = nat_le p most_amount

abbrev pub valid : Net → Bool
valid net = nat_le (length net.prizes) most_nodes && (nat_le (length net.edges) most_edges && (all valid_prize net.prizes && all (valid_link (length net.prizes)) net.edges))
