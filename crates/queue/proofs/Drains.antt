-- One entry more taken out of a queue, and none left. Assumes nothing.
use Rattle.std.proofs.Common.{◌≡◌, ℕ, zero, suc, ◌+◌, ◌-◌, ◌<◌, ◌≤◌, List, [], ◌∷◌, ◌++◌, length, take, drop, set, Some, None, Option, sym, refl, ap, ◌∙◌, subst, arith}
use Rattle.std.specs.Option.{option_to_list}
use Rattle.std.proofs.lemmas.List.{append-nil, append_assoc, length-take-le, take-append-drop, take_more_set, drop-set-lt, drop-drop}
use Rattle.queue.specs.Tables.{first_entry}
use Rattle.queue.specs.Draining.{without_entry, without_first, in_order, without}

-- where no entry is left, none is taken out
none_in_order : (m : ℕ) (t : List (Option ℕ)) → first_entry t ≡ None → in_order m t ≡ []
none_in_order zero t e = refl
none_in_order (suc m) t e = ap (λ o. option_to_list o ++ in_order m (without_entry t o)) e ∙ none_in_order m t e

none_without : (m : ℕ) (t : List (Option ℕ)) → first_entry t ≡ None → without m t ≡ t
none_without zero t e = refl
none_without (suc m) t e = ap (λ o. without m (without_entry t o)) e ∙ none_without m t e

-- what a loop keeps that has written i of n entries to `out`: `t` is the table now, `u` the table and `old` the list before
pub record Drained (n i : ℕ) (u t : List (Option ℕ)) (old out : List (ℕ × ℕ)) : Type 0 where
  pub taken : take i out ++ in_order (n - i) t ≡ in_order n u
  pub left : without (n - i) t ≡ without n u
  pub beyond : drop i out ≡ drop i old

module _ (n i : ℕ) (u t : List (Option ℕ)) (old out : List (ℕ × ℕ)) (h : Drained n i u t old out) where
  pub drained_more : i < n → i < length out → (e : ℕ × ℕ) → Some e ≡ first_entry t → (s : List (Option ℕ)) → s ≡ without_first t → Drained n (i + 1) u s old (set out i e)
  drained_more lt in' e first s is =
      let one : n - i ≡ suc (n - (i + 1)) = omega arith in
      let rest = in_order (n - (i + 1)) (without_first t) in
      record {
        taken =
            ap (λ l. l ++ in_order (n - (i + 1)) s) (take_more_set out i e in') ∙ append_assoc (take i out) (e ∷ []) (in_order (n - (i + 1)) s)
            ∙ ap (λ v. take i out ++ (e ∷ in_order (n - (i + 1)) v)) is ∙ ap (λ o. take i out ++ (option_to_list o ++ rest)) first ∙ ap (λ m. take i out ++ in_order m t) (sym one) ∙ h.taken;
        left = ap (without (n - (i + 1))) is ∙ ap (λ m. without m t) (sym one) ∙ h.left;
        beyond = drop-set-lt (i + 1) out i e (omega arith) ∙ sym (drop-drop 1 i out) ∙ ap (drop 1) h.beyond ∙ drop-drop 1 i old;
      }

  -- what is to be shown of i entries taken out, with the table s left
  abbrev pub Ended : ℕ → List (Option ℕ) → Type 0
  Ended r s = (r ≡ length (in_order n u)) × (s ≡ without n u) × (out ≡ in_order n u ++ drop r old)

  ended : i ≤ length out → in_order (n - i) t ≡ [] → without (n - i) t ≡ t → Ended i t
  ended in' all same =
      let wrote : take i out ≡ in_order n u = sym (append-nil (take i out)) ∙ ap (λ l. take i out ++ l) (sym all) ∙ h.taken in (
        sym (length-take-le i out in') ∙ ap length wrote,
        sym same ∙ h.left,
        sym (take-append-drop i out) ∙ ap (λ l. l ++ drop i out) wrote ∙ ap (λ l. in_order n u ++ l) h.beyond,
      )

  -- the queue has no entry left
  pub ended_empty : i ≤ length out → None ≡ first_entry t → (s : List (Option ℕ)) → s ≡ without_first t → Ended i s
  ended_empty in' none s is =
      let e = ended in' (none_in_order (n - i) t (sym none)) (none_without (n - i) t (sym none)) in
      (e.0, is ∙ ap (without_entry t) (sym none) ∙ e.1, e.2)

  -- the list is full
  pub ended_full : i ≡ length out → n ≤ i → Ended (length out) t
  ended_full whole full =
      let none : n - i ≡ 0 = omega arith in
      subst (λ r. Ended r t) whole (ended (omega arith) (ap (λ m. in_order m t) none) (ap (λ m. without m t) none))
