pub mod Cuts
pub mod SelectedRecords
pub mod Selection
