-- A growing network before and after a step.
use Rattle.std.proofs.Common.{◌≡◌, ℕ, ◌+◌, ◌≤◌, Bool, true, false, cond, List, Some, None, Option, sym, refl, ap, ◌∙◌, subst, add-one, arith}
use Rattle.theory.specs.Due.{earliest, due_times}
use Rattle.theory.specs.Growth.{State, active_count, ended, step, grow}
use Rattle.theory.proofs.Laws.{formed_by_number}
use Rattle.growth.specs.Events.{growing}
use Rattle.growth.specs.Shown.{ShowsAll}
use Rattle.network.specs.Nets.{Net, valid}
use Rattle.growth.specs.Grown.{Sound, next_due}
use Rattle.growth.specs.Refreshed.{dues_after, Refreshed}
use Rattle.growth.specs.declared.tables.Tables.{Tables}
use Rattle.growth.proofs.Counting.{growing_count}
use Rattle.growth.proofs.Advancing as Advancing
use Rattle.growth.proofs.Advancing.{one_more, up_to_date}

module _ (net : Net) (v : valid net ≡ true) (t : Tables) (table : List (Option ℕ)) (sound : Sound net t table) where
  abbrev st : State
  st = grow net t.steps

  pub active_is : growing t.family.clusters ≡ active_count st
  active_is = growing_count net t st (formed_by_number net v t.steps) sound.shown

  module _ (to number : ℕ) (due : Some (to, number) ≡ next_due net st) where
    pub going : ended st ≡ false
    going = by (ended st) refl
      where
        by : (b : Bool) → ended st ≡ b → ended st ≡ false
        by true e = let z : ◌≡◌ {A = Option (ℕ × ℕ)} (Some (to, number)) None = due ∙ ap (λ b. cond b None (earliest (dues_after net t.steps))) e in absurd (never z)
          where
            never : ◌≡◌ {A = Option (ℕ × ℕ)} (Some (to, number)) None → ⊥
            never z = let n : ◌≡◌ {A = ℕ} 0 1 = cc in omega arith
        by false e = e

    pub first_is : earliest (dues_after net t.steps) ≡ Some (to, number)
    first_is = sym (due ∙ ap (λ b. cond b None (earliest (dues_after net t.steps))) going)

    module _ (m : Tables) (shows : ShowsAll net m (step net st)) where
      pub some_formed : 1 ≤ m.family.formed
      some_formed = Advancing.some_formed net v t.steps to number going first_is m shows

      -- the steps say how far it has grown
      pub next_state : grow net m.steps ≡ step net st
      next_state = ap (grow net) (one_more net v t.steps to number going first_is m shows ∙ ap (λ x. x + 1) (sym sound.shown.shown.steps) ∙ add-one t.steps)

      pub next_shown : ShowsAll net m (grow net m.steps)
      next_shown = subst (ShowsAll net m) (sym next_state) shows

      pub next_queue : (u : List (Option ℕ)) → Refreshed net m number (dues_after net m.steps) table u → u ≡ dues_after net m.steps
      next_queue u fresh =
          let same : dues_after net m.steps ≡ _ = ap dues next_state in
          up_to_date net v t.steps to number going first_is m shows table u sound.due (subst (λ d. Refreshed net m number d table u) same fresh) ∙ sym same
        where
          dues : State → List (Option ℕ)
          dues s = due_times net s.time s.slots
