-- The keys of a table's entries, as the heap queue keeps them. Assumes nothing.
use Rattle.std.proofs.Common.{◌≡◌, ℕ, zero, suc, ◌+◌, ◌<◌, true, false, cond, List, [], ◌∷◌, ◌++◌, length, get_or, set, replicate, is_some, MatchOption, Some, None, Option, sym, refl, ap, ◌∙◌, subst, ⊎_elim, arith}
use Rattle.std.specs.List.Sorted.{IsPermutation}
use Rattle.std.specs.List.{ContainsAt, AllByRecursion}
use Rattle.std.specs.Option.{option_map}
use Rattle.std.proofs.Permutation.{which}
use Rattle.std.proofs.ByRecursion.{has_append_right}
use Rattle.std.proofs.lemmas.List.{get_or-set_same, get_or-set_other, length-append, length-set}
use Rattle.std.proofs.lemmas.List.Sorted.{sum_by-IsPermutation, length_permutation}
use Rattle.std.proofs.lemmas.List.Sums.{sum_by-cons, sum_by-append, sum_by-set, get_or-le-sum_by, count_by-le-length}
use Rattle.std.proofs.lemmas.Bool.Decides.{nat_tests}
use Rattle.heap.specs.Bags.{Least}
use Rattle.queue.specs.Tables.{RightAnswer}
use Rattle.queue.specs.Timed.{timed_leq, key_of, same_key, how_often, has_time, entered, entries, KeysOf}
use Rattle.queue.specs.declared.timed.TimedKey.{TimedKey}
use Rattle.queue.proofs.Firsts.{first_of}

-- 1 where two keys are the same, else 0
abbrev one : TimedKey → TimedKey → ℕ
one k x = cond (same_key k x) 1 0

same_is : (a b : TimedKey) → same_key a b ≡ true → a ≡ b
same_is a b h =
    let times : a.time ≡ b.time = grind (arith, nat_tests) in
    let numbers : a.number ≡ b.number = grind (arith, nat_tests) in
    λ i. record { time = times i; number = numbers i }

same_itself : (k : TimedKey) → same_key k k ≡ true
same_itself k = grind (arith, nat_tests)

-- a key that is counted is there, and one that is there is counted
counted_has : (k : TimedKey) (ks : List TimedKey) → 0 < how_often k ks → ContainsAt ks k
counted_has k [] h = absurd (omega arith)
counted_has k (x ∷ xs) h =
    let more = sum_by-cons (one k) x xs in
    elim (same_key k x) as (λ b. same_key k x ≡ b → ContainsAt (x ∷ xs) k) [
      | true ↦ λ e. (0, omega arith, λ d. sym (same_is k x e))
      | false ↦ λ e. has_append_right (x ∷ []) xs k (counted_has k xs (let z : one k x ≡ 0 = ap (λ b. cond b 1 0) e in omega arith))
    ] refl

has_counted : (k : TimedKey) (ks : List TimedKey) → ContainsAt ks k → 0 < how_often k ks
has_counted k ks h =
    let here = get_or-le-sum_by (one k) ks h.0 k h.1 in
    let is : one k (get_or ks h.0 k) ≡ 1 = ap (one k) (h.2 k) ∙ ap (λ b. cond b 1 0) (same_itself k) in
    omega arith

-- the key of an entry counts for its own number and time alone
key_here : (k : TimedKey) (n : ℕ) (e : Option ℕ) → k.number ≡ n → how_often k (key_of n e) ≡ cond (has_time e k.time) 1 0
key_here k n None h = refl
key_here k n (Some s) h = grind (arith, nat_tests)

key_elsewhere : (k : TimedKey) (n : ℕ) (e : Option ℕ) → (k.number ≡ n → ⊥) → how_often k (key_of n e) ≡ 0
key_elsewhere k n None h = refl
key_elsewhere k n (Some s) h = grind (arith, nat_tests)

-- what one written entry changes of what is entered
entered_set : (k : TimedKey) (t : List (Option ℕ)) (n : ℕ) (e : Option ℕ) → n < length t → how_often k (key_of n e) + entered k t ≡ entered k (set t n e) + how_often k (key_of n (get_or t n None))
entered_set k t n e h = ⊎_elim
    (λ same.
    let at : get_or (set t n e) k.number None ≡ e = ap (λ i. get_or (set t n e) i None) same ∙ get_or-set_same t n e None h in
    let was : get_or t k.number None ≡ get_or t n None = ap (λ i. get_or t i None) same in
    let new = key_here k n e same in
    let old = key_here k n (get_or t n None) same in
    let now' : entered k (set t n e) ≡ cond (has_time e k.time) 1 0 = ap (λ o. cond (has_time o k.time) 1 0) at in
    let then : entered k t ≡ cond (has_time (get_or t n None) k.time) 1 0 = ap (λ o. cond (has_time o k.time) 1 0) was in
    omega arith)
    (λ other.
    let new = key_elsewhere k n e other in
    let old = key_elsewhere k n (get_or t n None) other in
    let stays : entered k (set t n e) ≡ entered k t = ap (λ o. cond (has_time o k.time) 1 0) (get_or-set_other t n k.number e None other) in
    omega arith)
    (which k.number n)

entries_set : (t : List (Option ℕ)) (n : ℕ) (e : Option ℕ) → n < length t → entries (set t n e) + length (key_of n (get_or t n None)) ≡ entries t + length (key_of n e)
entries_set t n e h =
    let told = sum_by-set (λ o. cond (is_some o) 1 0) t n e None h in
    let new = long n e in
    let old = long n (get_or t n None) in
    omega arith
  where
    long : (i : ℕ) (o : Option ℕ) → length (key_of i o) ≡ cond (is_some o) 1 0
    long i None = refl
    long i (Some s) = refl

-- a table without entries has no keys
none_entered : (n i : ℕ) → get_or {A = Option ℕ} (replicate n None) i None ≡ None
none_entered zero i = refl
none_entered (suc n) zero = refl
none_entered (suc n) (suc i) = none_entered n i

no_count : (n : ℕ) → entries (replicate n None) ≡ 0
no_count zero = refl
no_count (suc n) = sum_by-cons (λ o. cond (is_some o) 1 0) None (replicate n None) ∙ ap (λ m. 0 + m) (no_count n)

pub no_keys : (n : ℕ) (ks : List TimedKey) → ks ≡ [] → KeysOf (replicate n None) ks
no_keys n ks e = subst (KeysOf (replicate n None)) (sym e) (sym (no_count n), λ k. sym (ap (λ o. cond (has_time o k.time) 1 0) (none_entered n k.number)))

module _ (t : List (Option ℕ)) (n : ℕ) (in' : n < length t) where
  -- the key of an entry is taken out, and the entry removed
  pub taken_out : (ks ls : List TimedKey) → KeysOf t ks → IsPermutation ks (key_of n (get_or t n None) ++ ls) → KeysOf (set t n None) ls
  taken_out ks ls h s = (
    (let size = length_permutation _ _ s in let parts = length-append (key_of n (get_or t n None)) ls in let told = entries_set t n None in' in let was = h.0 in omega arith),
    λ k.
        let count = sum_by-IsPermutation (one k) _ _ s in
        let parts = sum_by-append (one k) (key_of n (get_or t n None)) ls in
        let told = entered_set k t n None in' in
        let was = h.1 k in
        omega arith,
  )

  -- and where the key of a new one is then put in, the entry is replaced
  pub put_in : (time : ℕ) (ks ls ms : List TimedKey) → KeysOf t ks → IsPermutation ks (key_of n (get_or t n None) ++ ls) → IsPermutation (record { time = time; number = n } ∷ ls) ms → KeysOf (set t n (Some time)) ms
  put_in time ks ls ms h s u = (
    (let size = length_permutation _ _ s in let parts = length-append (key_of n (get_or t n None)) ls in let more = length_permutation _ _ u in let told = entries_set t n (Some time) in' in let was = h.0 in omega arith),
    λ k.
        let count = sum_by-IsPermutation (one k) _ _ s in
        let parts = sum_by-append (one k) (key_of n (get_or t n None)) ls in
        let more = sum_by-IsPermutation (one k) _ _ u in
        let with = sum_by-cons (one k) (record { time = time; number = n }) ls in
        let told = entered_set k t n (Some time) in' in
        let was = h.1 k in
        omega arith,
  )

  -- without the entry's key there is room for one more
  pub room_left : (ks ls : List TimedKey) → KeysOf t ks → IsPermutation ks (key_of n (get_or t n None) ++ ls) → length ls < length t
  room_left ks ls h s =
      let size = length_permutation _ _ s in
      let parts = length-append (key_of n (get_or t n None)) ls in
      let told = entries_set t n (Some 0) in' in
      let most = count_by-le-length is_some (set t n (Some 0)) in
      let long = length-set t n (Some 0) in
      let was = h.0 in
      omega arith

-- an entry and its key
has_time_is : (o : Option ℕ) (time : ℕ) → 0 < cond (has_time o time) 1 0 → o ≡ Some time
has_time_is None time h = absurd (omega arith)
has_time_is (Some s) time h = let same : s ≡ time = grind (arith, nat_tests) in ap Some same

has_own_time : (time : ℕ) → has_time (Some time) time ≡ true
has_own_time time = grind (arith, nat_tests)

entry_has_key : (t : List (Option ℕ)) (ks : List TimedKey) → KeysOf t ks → (n time : ℕ) → get_or t n None ≡ Some time → ContainsAt ks (record { time = time; number = n })
entry_has_key t ks h n time e =
    let k : TimedKey = record { time = time; number = n } in
    let here : entered k t ≡ 1 = ap (λ o. cond (has_time o time) 1 0) e ∙ ap (λ b. cond b 1 0) (has_own_time time) in
    let was = h.1 k in
    counted_has k ks (omega arith)

pub entry_held : (t : List (Option ℕ)) (ks : List TimedKey) → KeysOf t ks → (n : ℕ) → AllByRecursion (ContainsAt ks) (key_of n (get_or t n None))
entry_held t ks h n = elim (get_or t n None) as (λ o. get_or t n None ≡ o → AllByRecursion (ContainsAt ks) (key_of n o)) [
  | None ↦ λ _. tt
  | Some s ↦ λ e. (entry_has_key t ks h n s e, tt)
] refl

key_is_entered : (t : List (Option ℕ)) (ks : List TimedKey) → KeysOf t ks → (k : TimedKey) → ContainsAt ks k → get_or t k.number None ≡ Some k.time
key_is_entered t ks h k has = let count = has_counted k ks has in let was = h.1 k in has_time_is (get_or t k.number None) k.time (omega arith)

-- the least key is that of the first entry
pub least_first : (t : List (Option ℕ)) (ks : List TimedKey) (k : TimedKey) → KeysOf t ks → Least timed_leq k ks → RightAnswer t (Some (k.time, k.number))
least_first t ks k h least =
    first_of t (k.time, k.number) (key_is_entered t ks h k least.0)
    (λ j s at. let below = least.1 (record { time = s; number = j }) (entry_has_key t ks h j s at) in (grind (arith, nat_tests), λ same. grind (arith, nat_tests)))

-- where there is no key there is no entry
pub none_first : (t : List (Option ℕ)) (ks : List TimedKey) → KeysOf t ks → ks ≡ [] → RightAnswer t None
none_first t ks h empty = λ n. elim (get_or t n None) as (λ o. get_or t n None ≡ o → o ≡ None) [
  | None ↦ λ _. refl
  | Some s ↦ λ e. absurd (let has = entry_has_key t ks h n s e in let none : length ks ≡ 0 = ap length empty in omega (arith, has.1))
] refl

-- the least key, where there is one, is that of the first entry
pub first_by_least : (t : List (Option ℕ)) (ks : List TimedKey) (least : Option TimedKey) → KeysOf t ks → MatchOption least (ks ≡ []) (λ k. Least timed_leq k ks) → RightAnswer t (option_map (λ k. (k.time, k.number)) least)
first_by_least t ks None h empty = none_first t ks h empty
first_by_least t ks (Some k) h least = least_first t ks k h least
