pub mod Entering
pub mod Spelled
