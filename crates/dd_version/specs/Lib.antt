pub mod Classes
pub mod Copies
pub mod Filing
pub mod Fitting
pub mod Orders
pub mod Syntaxes
pub mod WellFormed
