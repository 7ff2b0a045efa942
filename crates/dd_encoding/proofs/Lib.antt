pub mod Even
pub mod Heads
pub mod KnownSyntaxes
