-- Once growth has ended it stays as it is, and it has ended after twice as many steps as there are nodes.
use Rattle.std.proofs.Common.{◌≡◌, ℕ, zero, suc, ◌*◌, ◌≤◌, true, sym, ap, ◌∙◌, ⊎_elim, arith}
use Rattle.std.proofs.lemmas.Bool.{cases_lt, lt-ltb}
use Rattle.network.specs.Nets.{Net, valid}
use Rattle.theory.specs.Nets.{node_count}
use Rattle.theory.specs.Growth.{active_count, ended, unless_ended, step, grow}
use Rattle.theory.proofs.Laws.{ends_in_time_holds}
use Rattle.theory.proofs.Runs.{counted, twice_active}
use Rattle.theory.proofs.Valid.{fine}

pub still : (net : Net) (k : ℕ) → ended (grow net k) ≡ true → (m : ℕ) → k ≤ m → grow net m ≡ grow net k
still net k e zero l = let same : zero ≡ k = omega arith in ap (grow net) same
still net k e (suc m) l = ⊎_elim
    (λ h. let same : suc m ≡ k = omega arith in ap (grow net) same)
    (λ h. ap (step net) (still net k e m h) ∙ ap (λ b. unless_ended b net (grow net k)) e)
    (cases_lt m k)

pub ends_once : (net : Net) (k m : ℕ) → ended (grow net k) ≡ true → ended (grow net m) ≡ true → grow net k ≡ grow net m
ends_once net k m a b = ⊎_elim (λ l. sym (still net k a m (omega arith))) (λ l. still net m b k l) (cases_lt k m)

pub ends_at_last : (net : Net) → valid net ≡ true → (m : ℕ) → 2 * node_count net ≤ m → ended (grow net m) ≡ true
ends_at_last net v m l = ⊎_elim
    (λ none. let falls = (counted net (fine net v) m).falls in let two = twice_active (grow net m).slots in lt-ltb (active_count (grow net m)) 2 (omega arith))
    (λ some. (ends_in_time_holds net v m (omega arith)).2 (omega arith))
    (cases_lt (node_count net) 1)
