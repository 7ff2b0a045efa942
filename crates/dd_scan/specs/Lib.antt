pub mod Scan
pub mod Scanning
pub mod Skips
pub mod Summaries
