pub mod Sorts
pub mod Collecting
pub mod Works
mod Orders
