-- A network under growth: the state that it has reached, and what its calls answer.
use Rattle.std.specs.Prelude.{◌≡◌, ℕ, true, cond, List, Some, None, Ok, Err, Option, Result}
use Rattle.refusal.specs.declared.Refusal.{Refusal}
use Rattle.refusal.specs.declared.Refusal.TheVariants.{GrowthEnded}
use Rattle.network.specs.Nets.{Net, valid}
use Rattle.theory.specs.Due.{earliest, due_times}
use Rattle.theory.specs.Growth.{State, ended, grow}
use Rattle.growth.specs.Shown.{Shown}
use Rattle.growth.specs.Refreshed.{dues_shown}
use Rattle.growth.specs.declared.event.Event.{Event}
use Rattle.growth.specs.Numbers.{event_of}
use Rattle.growth.specs.declared.tables.Tables.{Tables}

-- a valid network, as entered, and the steps accepted so far
pub record Grown : Type 0 where
  pub network : Net
  pub entered : valid network ≡ true
  pub steps : ℕ

abbrev pub network_of : Grown → Net
network_of g = g.network

abbrev pub steps_of : Grown → ℕ
steps_of g = g.steps

-- the state of growth after these steps
abbrev pub state_of : Grown → State
state_of g = grow (network_of g) (steps_of g)

-- the tables show the state that so many steps give, and the queue's table has its due times and no others
pub record Sound (net : Net) (t : Tables) (table : List (Option ℕ)) : Type 0 where
  pub shown : Shown net t
  pub due : table ≡ dues_shown net t

-- what a step takes: what is due first, and nothing once growth has ended
abbrev pub next_due : Net → State → Option (ℕ × ℕ)
next_due net st = cond (ended st) None (earliest (due_times net st.time st.slots))

-- what a step answers that takes this
abbrev pub taken_answer : Option (ℕ × ℕ) → Result Event Refusal
taken_answer None = Err GrowthEnded
taken_answer (Some (time, number)) = Ok (event_of number)

abbrev pub step_answer : Net → State → Result Event Refusal
step_answer net st = taken_answer (next_due net st)
