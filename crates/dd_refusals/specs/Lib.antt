pub mod Faults
pub mod MaskedWords
pub mod Mistakes
pub mod Styles
