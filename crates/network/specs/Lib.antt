pub mod Codes
pub mod Nets
pub mod Edges
pub mod Networks
pub mod Entries
pub mod Lists
