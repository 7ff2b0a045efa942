pub mod Batches
pub mod Faults
pub mod Indexing
pub mod Passing
pub mod Readings
pub mod Supplies
pub mod Supply
