pub mod Codes
pub mod Sorting
pub mod WorkLists
pub mod Keys
pub mod Orders
