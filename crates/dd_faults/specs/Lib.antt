pub mod Grounds
pub mod Reasons
pub mod Refusal
