pub mod Counts
pub mod FaultLines
pub mod NoteLines
