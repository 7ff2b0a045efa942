pub mod AnswersAs
pub mod Checks
pub mod Faults
pub mod Lists
pub mod Reading
