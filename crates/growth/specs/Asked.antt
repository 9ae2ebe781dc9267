-- What questions about a growing network answer.
use Rattle.std.specs.Prelude.{ℕ, cond, List, length, Ok, Err, Result, nat_lt}
use Rattle.refusal.specs.declared.Refusal.{Refusal}
use Rattle.refusal.specs.declared.Refusal.TheVariants.{ClusterNotFormed}
use Rattle.theory.specs.Clusters.{Slot}
use Rattle.theory.specs.Growth.{State}
use Rattle.theory.specs.Numbers.{parts_of, phase_of, moat_of}
use Rattle.growth.specs.Shown.{phase_shown}
use Rattle.growth.specs.declared.standing.Standing.{Standing}

-- the parts, state and moat of the cluster of a number
abbrev pub standing_at : List Slot → ℕ → Standing
standing_at ts c = record { parts = parts_of ts c; phase = phase_shown (phase_of ts c); moat = moat_of ts c }

-- refused if no cluster of this number is formed
abbrev pub cluster_answer : State → ℕ → Result Standing Refusal
cluster_answer st c = cond (nat_lt c (length st.slots)) (Ok (standing_at st.slots c)) (Err ClusterNotFormed)
