pub mod Directory
pub mod Folders
pub mod Paths
pub mod ProgressLine
pub mod Storing
