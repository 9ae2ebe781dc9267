-- Which records grow, and how many: those of the active maximal clusters.
use Rattle.std.proofs.Common.{◌≡◌, ℕ, ◌<◌, ◌≤◌, Bool, true, false, ◌&&◌, ltb, length, get_or, sym, refl, ap, ◌∙◌, ⊎_elim, arith}
use Rattle.std.proofs.lemmas.List.{get_or_past}
use Rattle.std.proofs.lemmas.Bool.{cases_lt, lt-ltb, and_right}
use Rattle.network.specs.Nets.{Net}
use Rattle.theory.specs.Nets.{node_count}
use Rattle.theory.specs.Clusters.{is_active}
use Rattle.theory.specs.Clusters as theory
use Rattle.theory.specs.Clusters.Phase.{active, inactive}
use Rattle.theory.specs.Clusters.Slot.{inside}
use Rattle.theory.specs.Due.{slot_active, active_at}
use Rattle.theory.specs.Numbers.{phase_of, is_maximal}
use Rattle.theory.specs.Growth.{State}
use Rattle.theory.specs.ByNumber.{Formed}
use Rattle.growth.specs.Records.{vacant, phase_active, is_growing}
use Rattle.growth.specs.NodeTables.{grows_at}
use Rattle.growth.specs.Shown.{phase_shown, ShowsAll}
use Rattle.growth.specs.declared.tables.Tables.{Tables}

pub same_phase : (p : theory.Phase) → phase_active (phase_shown p) ≡ is_active p
same_phase active = refl
same_phase inactive = refl

turned : (x y : Bool) → (x && y) ≡ (y && x)
turned true true = refl
turned true false = refl
turned false true = refl
turned false false = refl

module _ (net : Net) (t : Tables) (st : State) (formed : Formed (node_count net) st.slots) (shows : ShowsAll net t st) where
  pub growing_shown : (c : ℕ) → c < length st.slots → is_growing (get_or t.family.clusters c vacant) ≡ active_at st.slots c
  growing_shown c l =
      ap is_growing (shows.shown.records c l)
      ∙ ap (λ a. a && is_maximal st.slots c) (same_phase (phase_of st.slots c))
      ∙ turned (is_active (phase_of st.slots c)) (is_maximal st.slots c)
      ∙ sym (formed.activity c l)

  pub idle_past : (c : ℕ) → length st.slots ≤ c → active_at st.slots c ≡ false
  idle_past c l = ap slot_active (get_or_past st.slots c inside l)

  pub growing_any : (c : ℕ) → is_growing (get_or t.family.clusters c vacant) ≡ active_at st.slots c
  growing_any c = ⊎_elim (growing_shown c) (λ l. ap is_growing (shows.vacants c l) ∙ sym (idle_past c l)) (cases_lt c (length st.slots))

  pub grows_shown : (c : ℕ) → grows_at t.family.clusters c ≡ active_at st.slots c
  grows_shown c = ⊎_elim
      (λ l. ap (λ b. b && is_growing (get_or t.family.clusters c vacant)) (lt-ltb c (length t.family.clusters) (let w = t.family.whole in let k = t.family.within in let e = shows.shown.count in omega arith)) ∙ growing_any c)
      (λ l. and_right (ltb c (length t.family.clusters)) _ (growing_any c ∙ idle_past c l) ∙ sym (idle_past c l))
      (cases_lt c (length st.slots))
