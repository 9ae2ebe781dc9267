-- The first entry of a table is the one that comes first in words, and there is no other. Assumes nothing.
use Rattle.std.proofs.Common.{◌≡◌, ℕ, suc, ◌+◌, ◌<◌, ◌≤◌, Bool, cond, List, [], ◌∷◌, ◌++◌, length, get_or, Some, None, Option, sym, refl, ap, ◌∙◌, subst, ⊎_elim, append_assoc, arith}
use Rattle.std.proofs.lemmas.List.{append-nil, get_or_append_left, get_or_push, get_or_past, length_push}
use Rattle.std.proofs.lemmas.Bool.Decides.{leb_tells, eqb_tells}
use Rattle.queue.specs.Tables.{sooner, scan, first_entry, ComesFirst, RightAnswer, FirstEntryStands}

pub same_time : (o : Option ℕ) (a b : ℕ) → o ≡ Some a → o ≡ Some b → a ≡ b
same_time o a b p q = cc

pub not_both : (o : Option ℕ) (a : ℕ) → o ≡ Some a → o ≡ None → ⊥
not_both o a p q = let z : ◌≡◌ {A = ℕ} 0 1 = cc in omega arith

-- an entry's number is one of the table's
pub entry_below : (t : List (Option ℕ)) (k time : ℕ) → get_or t k None ≡ Some time → k < length t
entry_below t k time e = ⊎_elim (λ lt. lt.1) (λ ge. absurd (not_both (get_or t k None) time e (get_or_past t k None (omega arith)))) (leb_tells (suc k) (length t))

-- an entry of a table with one place more: it is an old one or the new one
data Place (t : List (Option ℕ)) (x : Option ℕ) (k : ℕ) : Type 0 where
  old : k < length t → get_or (t ++ x ∷ []) k None ≡ get_or t k None → Place t x k
  new : k ≡ length t → get_or (t ++ x ∷ []) k None ≡ x → Place t x k
  past : length t < k → get_or (t ++ x ∷ []) k None ≡ None → Place t x k

place : (t : List (Option ℕ)) (x : Option ℕ) (k : ℕ) → Place t x k
place t x k =
    ⊎_elim
    (λ lt. old lt.1 (get_or_append_left t (x ∷ []) None k lt.1))
    (λ ge. ⊎_elim
    (λ eq. new eq.1 (get_or_push t x None k (sym eq.1)))
    (λ ne. let h : length t < k = omega arith in past h (get_or_past (t ++ x ∷ []) k None (omega (arith, length_push t x))))
    (eqb_tells k (length t)))
    (leb_tells (suc k) (length t))

at_new : (t : List (Option ℕ)) (x : Option ℕ) → get_or (t ++ x ∷ []) (length t) None ≡ x
at_new t x = get_or_push t x None (length t) refl

kept : (t : List (Option ℕ)) (x : Option ℕ) (k time : ℕ) → get_or t k None ≡ Some time → get_or (t ++ x ∷ []) k None ≡ Some time
kept t x k time e = get_or_append_left t (x ∷ []) None k (entry_below t k time e) ∙ e

-- e comes no later than the entry of a number and a time
abbrev Before : ℕ × ℕ → ℕ → ℕ → Type 0
Before e k time = (e.0 ≤ time) × (time ≡ e.0 → e.1 ≤ k)

-- an entry that comes no later than each comes first
pub first_of : (t : List (Option ℕ)) (e : ℕ × ℕ) → get_or t e.1 None ≡ Some e.0 → ((k time : ℕ) → get_or t k None ≡ Some time → Before e k time) → ComesFirst t e
first_of t e in' all = record { entered = in'; earliest = λ k time at. (all k time at).0; lowest = λ k at. (all k e.0 at).1 refl }

before : (t : List (Option ℕ)) (e : ℕ × ℕ) → ComesFirst t e → (k time : ℕ) → get_or t k None ≡ Some time → Before e k time
before t e h k time at = (h.earliest k time at, λ same. h.lowest k (at ∙ ap Some same))

-- what is said of each entry of the longer table follows from what is said of the old ones and of the new one
each : (t : List (Option ℕ)) (x : Option ℕ) (P : ℕ → ℕ → Type 0) → ((k time : ℕ) → get_or t k None ≡ Some time → P k time) → ((time : ℕ) → x ≡ Some time → P (length t) time)
    → (k time : ℕ) → get_or (t ++ x ∷ []) k None ≡ Some time → P k time
each t x P olds here k time e =
    elim (place t x k) [
      | old lt same ↦ olds k time (sym same ∙ e)
      | new eq same ↦ let Q : ℕ → Type 0 = λ j. P j time in subst Q (sym eq) (here time (sym same ∙ e))
      | past gt none ↦ absurd (not_both (get_or (t ++ x ∷ []) k None) time e none)
    ]

-- one place more
push : (t : List (Option ℕ)) (found : Option (ℕ × ℕ)) (x : Option ℕ) → RightAnswer t found → RightAnswer (t ++ x ∷ []) (sooner found (length t) x)
push t None None h = λ k. elim (place t None k) [ old lt same ↦ same ∙ h k | new eq same ↦ same | past gt none ↦ none ]
push t None (Some time) h =
    first_of (t ++ Some time ∷ []) (time, length t) (at_new t (Some time))
    (each t (Some time) (Before (time, length t))
    (λ k s e. absurd (not_both (get_or t k None) s e (h k)))
    (λ s e. let same = same_time (Some time) time s refl e in (omega arith, λ _. omega arith)))
push t (Some e) None h =
    first_of (t ++ None ∷ []) e (kept t None e.1 e.0 h.entered)
    (each t None (Before e) (before t e h) (λ s bad. absurd (not_both None s bad refl)))
push t (Some e) (Some time) h =
    let taken : time < e.0 → ComesFirst (t ++ Some time ∷ []) (time, length t) =
    λ lt. first_of (t ++ Some time ∷ []) (time, length t) (at_new t (Some time))
    (each t (Some time) (Before (time, length t))
    (λ k s at. let late = h.earliest k s at in (omega arith, λ same. absurd (omega arith)))
    (λ s at. let same = same_time (Some time) time s refl at in (omega arith, λ _. omega arith))) in
    let left : e.0 ≤ time → ComesFirst (t ++ Some time ∷ []) e =
    λ le. first_of (t ++ Some time ∷ []) e (kept t (Some time) e.1 e.0 h.entered)
    (each t (Some time) (Before e) (before t e h)
    (λ s at. let same = same_time (Some time) time s refl at in let low = entry_below t e.1 e.0 h.entered in (omega arith, λ _. omega arith))) in
    let C : Bool → Type 0 = λ b. RightAnswer (t ++ Some time ∷ []) (cond b (Some (time, length t)) (Some e)) in
    ⊎_elim (λ w. subst C (sym w.0) (taken w.1)) (λ w. subst C (sym w.0) (left (omega arith))) (leb_tells (suc time) e.0)

scan_right : (xs t : List (Option ℕ)) (found : Option (ℕ × ℕ)) → RightAnswer t found → RightAnswer (t ++ xs) (scan found (length t) xs)
scan_right [] t found h = let P : List (Option ℕ) → Type 0 = λ u. RightAnswer u found in subst P (sym (append-nil t)) h
scan_right (x ∷ xs) t found h =
    let rest = scan_right xs (t ++ x ∷ []) (sooner found (length t) x) (push t found x h) in
    let P : List (Option ℕ) → Type 0 = λ u. RightAnswer u (scan (sooner found (length t) x) (length t + 1) xs) in
    let Q : ℕ → Type 0 = λ n. RightAnswer ((t ++ x ∷ []) ++ xs) (scan (sooner found (length t) x) n xs) in
    subst P (append_assoc t (x ∷ []) xs) (subst Q (length_push t x) rest)

pub first_right : (t : List (Option ℕ)) → RightAnswer t (first_entry t)
first_right t = scan_right t [] None (λ k. refl)

-- two answers to one table are the same
one_answer : (t : List (Option ℕ)) (a b : Option (ℕ × ℕ)) → RightAnswer t a → RightAnswer t b → a ≡ b
one_answer t None None g h = refl
one_answer t None (Some e) g h = absurd (not_both (get_or t e.1 None) e.0 h.entered (g e.1))
one_answer t (Some d) None g h = absurd (not_both (get_or t d.1 None) d.0 g.entered (h d.1))
one_answer t (Some d) (Some e) g h =
    let de = before t d g e.1 e.0 h.entered in
    let ed = before t e h d.1 d.0 g.entered in
    let times : d.0 ≡ e.0 = omega arith in
    let down = de.1 (sym times) in
    let up = ed.1 times in
    let numbers : d.1 ≡ e.1 = omega arith in
    λ i. Some (times i, numbers i)

pub only_first : (t : List (Option ℕ)) (answer : Option (ℕ × ℕ)) → RightAnswer t answer → answer ≡ first_entry t
only_first t answer h = one_answer t answer (first_entry t) h (first_right t)

pub first_entry_stands : FirstEntryStands
first_entry_stands t = (first_right t, only_first t)
