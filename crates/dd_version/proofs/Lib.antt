pub mod ImageClasses
pub mod KnownSyntaxes
mod Listed
mod Misfits
