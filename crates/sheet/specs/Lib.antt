pub mod Numbers
pub mod Lines
pub mod Sheets
pub mod Readers
pub mod Writing
pub mod Rounds
