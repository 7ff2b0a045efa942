mod Comparing
mod Copied
mod CopiedVersions
mod Digested
pub mod DueFiles
mod Knowing
mod Measuring
mod Passing
mod ReadingAhead
mod Sending
