pub mod Along
pub mod Going
pub mod StreamEnds
