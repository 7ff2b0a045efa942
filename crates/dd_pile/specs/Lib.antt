pub mod Copies
pub mod Last
pub mod Lists
pub mod Paths
pub mod Piles
pub mod ReadingAhead
pub mod Refusals
pub mod Sums
