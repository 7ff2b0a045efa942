pub mod KeptCalls
pub mod MemFiles
pub mod MemLaws
pub mod MemReader
pub mod PlannedFaults
pub use Rattle.dd_files.specs.Files
