-- The meaning of a heap.
pub mod Order
pub mod Shape
pub mod Bags
