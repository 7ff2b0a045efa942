pub mod Ahead
pub mod Copies
pub mod CopySteps
pub mod Filing
pub mod Sent
pub mod Taken
