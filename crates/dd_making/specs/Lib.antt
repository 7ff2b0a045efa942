pub mod Cuts
pub mod Images
pub mod Indexes
pub mod Merges
pub mod Noted
pub mod Notes
pub mod Refusals
