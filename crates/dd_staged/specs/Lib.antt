pub mod Cells
pub mod Codes
pub mod Forms
pub mod Refusals
pub mod Sources
pub mod Stages
pub mod Values
pub mod Worked
