pub mod Counting
pub mod FoundElements
pub mod Parts
pub mod Places
pub mod Seen
pub mod Unkept
