pub mod Directories
pub mod Grounds
pub mod Inspecting
