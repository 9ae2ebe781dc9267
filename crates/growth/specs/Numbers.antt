-- The numbers of the queue's table: the clusters' from 0 to 510, then the edges'.
use Rattle.std.specs.Prelude.{ℕ, ◌-◌, cond, nat_lt}
use Rattle.growth.specs.declared.event.Event.{Event}
use Rattle.growth.specs.declared.event.Event.TheVariants.{Deactivated, Merged}

-- the event under a number: below 511 a cluster's, from there on an edge's
abbrev pub event_of : ℕ → Event
event_of number = cond (nat_lt number 511) (Deactivated number) (Merged (number - 511))
