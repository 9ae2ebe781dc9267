-- The lemmas of the event queues.
pub mod Firsts
pub mod Writes
pub mod Keeps
pub mod Drains
pub mod Least
pub mod Scans
