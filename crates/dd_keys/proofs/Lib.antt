pub mod Carrying
mod CarryingKept
pub mod FoundVersions
pub mod Held
pub mod Ingesting
pub mod Judging
pub mod Passes
mod Scans
pub mod SetValues
pub mod SummaryLaws
pub mod Tells
