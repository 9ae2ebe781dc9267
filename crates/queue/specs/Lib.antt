-- The meaning of an event queue.
pub mod Tables
pub mod Timed
pub mod Draining
