pub mod Answers
pub mod Branches
pub mod Pruned
pub mod Strong
pub mod Written
pub mod Trees
pub mod Shown
