pub mod Elements
pub mod Head
pub mod Meta
pub mod Spelling
pub mod Syntaxes
