-- What a write does, and what its answer says of its number. Assumes nothing.
use Rattle.std.proofs.Common.{◌≡◌, ℕ, suc, ◌<◌, ◌≤◌, List, length, None, Ok, Err, Option, sym, refl, subst, ⊎_elim, arith}
use Rattle.std.proofs.lemmas.List.{get_or-set_same, get_or-set_other, set_past}
use Rattle.std.proofs.lemmas.Bool.{cond_above, cond_below}
use Rattle.std.proofs.lemmas.Bool.Decides.{nat_tests, leb_tells}
use Rattle.refusal.specs.declared.Refusal.{Refusal}
use Rattle.refusal.specs.declared.Refusal.TheVariants.{EventOutOfRange}
use Rattle.queue.specs.Tables.{write_answer, with_entry, Written, WriteOutcome, WritesStand}

-- a number that is taken is one of the table's
pub taken_below : (n : ℕ) → Ok tt ≡ write_answer n → n < 1535
taken_below n e = grind (arith, nat_tests)

refused_past : (n : ℕ) (e : Refusal) → Err e ≡ write_answer n → 1535 ≤ n
refused_past n e h = grind (arith, nat_tests)

-- a number that is refused leaves the table
pub refused_stays : (t : List (Option ℕ)) (n : ℕ) (entry : Option ℕ) (e : Refusal) → length t ≡ 1535 → Err e ≡ write_answer n → t ≡ with_entry t n entry
refused_stays t n entry e full h = let past = refused_past n e h in sym (set_past t n entry (omega arith))

written : (t : List (Option ℕ)) (n : ℕ) (entry : Option ℕ) → n < length t → Written t (with_entry t n entry) n entry
written t n entry in' = record { there = get_or-set_same t n entry None in'; others = λ k other. get_or-set_other t n k entry None other }

pub writes_stand : WritesStand
writes_stand t n entry full =
    ⊎_elim
    (λ w. subst (WriteOutcome t n entry) (cond_below n 1535 (Ok tt) (Err EventOutOfRange) w.1) (written t n entry (omega arith)))
    (λ w. subst (WriteOutcome t n entry) (cond_above n 1535 (Ok tt) (Err EventOutOfRange) (Err EventOutOfRange) (omega arith) refl) (omega arith, refl, set_past t n entry (omega arith)))
    (leb_tells (suc n) 1535)
