-- A write of the right entry leaves every right entry right; once all are right, the table is that of the due times.
use Rattle.std.proofs.Common.{◌≡◌, ℕ, ◌+◌, ◌-◌, ◌<◌, ◌≤◌, List, length, get_or, None, Option, sym, ap, ◌∙◌, ⊎_elim, arith}
use Rattle.std.proofs.lemmas.List.{length-set, get_or_past, get_or-set_same, get_or-set_other, ext_get_or}
use Rattle.std.proofs.lemmas.Bool.{cases_lt, cases_eq}
use Rattle.queue.specs.Tables.{with_entry}
use Rattle.network.specs.Nets.{Net}
use Rattle.theory.specs.Nets.{edge_count}
use Rattle.theory.specs.Clusters.{Slot}
use Rattle.theory.specs.Due.{due_times, maximal_of}
use Rattle.theory.proofs.Valid.{Fine}
use Rattle.theory.proofs.Table.{table_edge, table_past, edge_due_none}
use Rattle.growth.specs.Refreshed.{Right, CaughtUp}

module _ (dues t u : List (Option ℕ)) (number : ℕ) (entry : Option ℕ) (long : length t ≡ 1535) (all : length dues ≡ 1535)
    (wrote : u ≡ with_entry t number entry) (is : entry ≡ get_or dues number None) where
  here_within : number < 1535 → Right dues u number
  here_within l = ap (λ r. get_or r number None) wrote ∙ get_or-set_same t number entry None (omega arith) ∙ is

  pub long_after : length u ≡ 1535
  long_after = ap length wrote ∙ length-set t number entry ∙ long

  pub right_here : Right dues u number
  right_here = ⊎_elim here_within (λ l. get_or_past u number None (let e = long_after in omega arith) ∙ sym (get_or_past dues number None (omega arith))) (cases_lt number 1535)

  pub caught_up : CaughtUp dues t u
  caught_up = record {
    same_length = long_after ∙ sym long;
    keeps = λ j r. ⊎_elim
        (λ e. ap (λ k. get_or u k None) e ∙ right_here ∙ ap (λ k. get_or dues k None) (sym e))
        (λ e. ap (λ l. get_or l j None) wrote ∙ get_or-set_other t number j entry None e ∙ r)
        (cases_eq j number);
  }

pub all_right : (dues t : List (Option ℕ)) → length t ≡ 1535 → length dues ≡ 1535 → ((j : ℕ) → j < 1535 → Right dues t j) → t ≡ dues
all_right dues t long all right = ext_get_or None t dues (long ∙ sym all) (λ j l. right j (omega arith))

-- nothing is due under a number beyond the edges
pub none_beyond : (net : Net) → Fine net → (time : ℕ) (ts : List Slot) (k : ℕ) → 511 ≤ k → edge_count net ≤ k - 511 → get_or (due_times net time ts) k None ≡ None
none_beyond net f time ts k high unknown = ⊎_elim
    (λ l. let at : k ≡ 511 + (k - 511) = omega arith in
    ap (λ j. get_or (due_times net time ts) j None) at ∙ table_edge net time ts (k - 511) (omega arith) ∙ edge_due_none net time ts (k - 511) (ap (maximal_of ts) (f.unknown (k - 511) unknown)))
    (λ l. table_past net time ts k l)
    (cases_lt k 1535)
