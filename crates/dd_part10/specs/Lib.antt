pub mod Memory
pub mod Meta
pub mod Faults
pub mod File
pub mod Reading
pub mod Taking
pub mod Streaming
pub mod Views
