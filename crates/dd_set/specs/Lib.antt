pub mod Counts
pub mod Find
pub mod Memory
pub mod Places
pub mod Single
pub mod Starts
pub mod Views
