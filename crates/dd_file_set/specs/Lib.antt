pub mod Changed
pub mod Claims
pub mod Left
pub mod Made
pub mod ReadingAhead
pub mod Reasons
pub mod Standing
