-- The lemmas of the heap.
pub mod Sifts
pub mod Cuts
pub mod Leasts
