-- The earliest entry of a table is its least. Assumes nothing.
use Rattle.std.proofs.Common.{◌≡◌, ℕ, ◌<◌, ◌≤◌, List, get_or, Some, None, Option, sym, subst, ⊎_elim, arith}
use Rattle.std.proofs.lemmas.Bool.{cases_eq}
use Rattle.queue.specs.Tables.{ComesFirst, RightAnswer}
use Rattle.queue.proofs.Firsts.{first_right}
use Rattle.theory.specs.Due.{earliest}

-- an entry of the table with the least time, and among equal times the lowest number; none where there is none
abbrev pub Earliest : List (Option ℕ) → Option (ℕ × ℕ) → Type 0
Earliest table None = (k : ℕ) → get_or table k None ≡ None
Earliest table (Some p) = (get_or table p.1 None ≡ Some p.0) × ((k time : ℕ) → get_or table k None ≡ Some time → (p.0 ≤ time) × (k < p.1 → p.0 < time))

later : (table : List (Option ℕ)) (e : ℕ × ℕ) → ComesFirst table e → (k time : ℕ) → get_or table k None ≡ Some time → k < e.1 → e.0 < time
later table e h k time is l =
    let le = h.earliest k time is in
    ⊎_elim
    (λ same. let low = h.lowest k (subst (λ t. get_or table k None ≡ Some t) same is) in absurd (omega arith))
    (λ other. let ne : e.0 ≡ time → ⊥ = λ q. other (sym q) in omega arith)
    (cases_eq time e.0)

in_words : (table : List (Option ℕ)) (o : Option (ℕ × ℕ)) → RightAnswer table o → Earliest table o
in_words table None h = h
in_words table (Some e) h = (h.entered, λ k time is. (h.earliest k time is, later table e h k time is))

pub earliest_stands : (table : List (Option ℕ)) → Earliest table (earliest table)
earliest_stands table = in_words table (earliest table) (first_right table)
