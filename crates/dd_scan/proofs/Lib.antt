pub mod CleanedFronts
pub mod Feeding
pub mod FragmentSteps
pub mod Scanned
pub mod Shorter
pub mod Skipped
