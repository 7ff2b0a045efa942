pub mod Cells
pub mod Directory
pub mod ElementForms
pub mod Levels
pub mod Records
pub mod Sizes
pub mod Tables
pub mod Withdrawals
